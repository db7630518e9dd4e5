use Rattle.std.proofs.Common.{◌≡◌, ◌<◌, length, ap, sym, ◌∙◌, arith, subst}
use Rattle.std.proofs.lemmas.Option.{slice_get_within}
use Rattle.rng_model.specs.simple.Table.{tree_at}
use Rattle.rng_model.specs.declared.simple.PatternId.{PatternId}
use Rattle.rng_rules.specs.plain.Facts.{HasFacts, facts_of}
use Rattle.rng_rules.proofs.FactsOver.{has_more}
use Rattle.rng_rules.proofs.facts.facts_of.Goals as goal

pub patterns-preserved : goal.patterns-preserved
patterns-preserved c =
    let ps = c.args.grammar.now.patterns in
    let here : PatternId = record { 0 = c.len.result } in
    let inside : c.len.result < length ps = slice_get_within _ _ _ (sym c.in-Some.ensures.value) in
    let same : c.deref.result.now ≡ c.patterns.facts.items = c.deref.ensures.value in
    let has : HasFacts (tree_at ps) c.deref.result.now = subst (HasFacts (tree_at ps)) (sym same) c.patterns.invariant.so_far in
    let is : c.facts_over.result ≡ facts_of (tree_at ps here) = c.facts_over.ensures (tree_at ps) has ∙ ap facts_of (sym c.in-Some.ensures.tree) in
    record {
      within = omega (arith, inside, c.in_ok-push.ensures.len, c.len.ensures);
      so_far = has_more (tree_at ps) c.patterns.facts.items c.push.new.self.items _ here c.in_ok-push.ensures.items (omega (arith, c.len.ensures)) is c.patterns.invariant.so_far;
    }
