use Rattle.std.proofs.Common.{length, map, sym, ◌∙◌, ap, subst}
use Rattle.rng_model.specs.simple.Table.{tree_at}
use Rattle.rng_rules.specs.plain.Broken.{parts_broken}
use Rattle.rng_rules.specs.plain.Facts.{HasFacts, facts_of}
use Rattle.rng_rules.proofs.GrammarBodies.{all_parts, bodies_within}
use Rattle.rng_rules.proofs.broken.broken_in.Goals as goal

pub broken_by_parts-requires-clause-bodies : goal.broken_by_parts-requires-clause-bodies
broken_by_parts-requires-clause-bodies c =
    bodies_within c.args.grammar.now c.deref-2.result.now _ c.start.ensures.valid (c.deref-2.ensures.value ∙ c.in_ok-bodies.ensures) (ap length c.deref.ensures.value ∙ c.in_ok-facts.ensures.len)

pub returns : goal.returns
returns c =
    let t = c.args.grammar.now in
    let has : HasFacts (tree_at t.patterns) c.deref.result.now = subst (HasFacts (tree_at t.patterns)) (sym c.deref.ensures.value) c.in_ok-facts.ensures.facts in
    c.broken_by_parts.ensures (tree_at t.patterns) has
    ∙ ap (λ s. parts_broken (facts_of (tree_at t.patterns s)) (map (λ b. facts_of (tree_at t.patterns b)) c.deref-2.result.now)) c.start.ensures.start
    ∙ all_parts t c.deref-2.result.now (c.deref-2.ensures.value ∙ c.in_ok-bodies.ensures)
