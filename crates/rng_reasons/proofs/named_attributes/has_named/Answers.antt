use Rattle.std.proofs.Common.{◌≡◌, ◌∙◌, ◌∷◌, [], Some, ap, arith, length, slice_get, subst, sym}
use Rattle.std.proofs.lemmas.List.{length-append}
use Rattle.rng_model.specs.names.NameViews.{name_of}
use Rattle.rng_deriv_table.specs.views.Node.{node_of}
use Rattle.rng_deriv_table.specs.views.Trees.{tree_of}
use Rattle.rng_deriv_table.proofs.Trees.{tree_of-over_parts}
use Rattle.rng_reasons.specs.NamedAttributes.{AreTests, has_named}
use Rattle.rng_reasons.proofs.NamesInPatterns.{one_test}
use Rattle.rng_reasons.proofs.named_attributes.has_named.Goals as goal

pub rows-preserved : goal.rows-preserved
rows-preserved c =
    let t = c.args.context.now.grammar.now in
    let ns = c.args.table.now in
    let q = name_of c.args.name.now in
    let old = c.rows.tests.items in
    let n = node_of c.pattern-pattern.result.now in
    let number : c.len-in-rows.result ≡ length old = c.len-in-rows.ensures ∙ c.rows.tests.ok.0 in
    let there : slice_get ns (length old) ≡ Some n = subst (λ i. slice_get ns i ≡ Some n) number c.pattern-pattern.ensures.found in
    let row = c.has_named_by-test.ensures (tree_of t ns) (subst (AreTests q (tree_of t ns)) (sym c.as_slice.ensures.value) c.rows.invariant.tests) in
    let over = tree_of-over_parts t ns (length old) n (c.pattern-pattern.ensures.table.falls (length old) n there) there in
    let long = ap length c.in_ok-push.ensures.items ∙ length-append old (c.has_named_by-test.result ∷ []) in
    record {
      within = omega (arith, long, number, c.rows.tests.ok.0, c.len.ensures, c.rows-test.true);
      tests = one_test q (tree_of t ns) old c.push.new.self.items c.has_named_by-test.result c.rows.invariant.tests c.in_ok-push.ensures.items
          (row ∙ ap (has_named q) (sym over));
    }
