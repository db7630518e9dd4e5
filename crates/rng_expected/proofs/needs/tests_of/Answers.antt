use Rattle.std.proofs.Common.{◌≡◌, ◌∙◌, ◌↔◌, ◌<◌, false, true, get_or, length, List, Bool, ℕ, [], ◌∷◌, ap, refl, subst, sym, arith, slice_get, Some}
use Rattle.std.proofs.lemmas.List.{length-append}
use Rattle.rng_model.specs.names.NameViews.{name_of}
use Rattle.rng_deriv_table.specs.views.Node.{node_of}
use Rattle.rng_deriv_table.specs.views.Trees.{tree_of}
use Rattle.rng_deriv_ways.proofs.PatternNodes.{is_over}
use Rattle.rng_expected.specs.Tags.{Needs}
use Rattle.rng_expected.proofs.NeededNames.{one_test}
use Rattle.rng_expected.proofs.needs.tests_of.Goals as goal

pub rows-preserved : goal.rows-preserved
rows-preserved c =
    let t = c.args.grammar.now in
    let ns = c.args.table.now in
    let n = name_of c.args.name.now in
    let old = c.rows.tests.items in
    let p = c.pattern-pattern.result.now in
    let number : c.len-in-rows-2.result ≡ length old = c.len-in-rows-2.ensures ∙ c.rows.tests.ok.0 in
    let there : slice_get ns (length old) ≡ Some (node_of p) = subst (λ i. slice_get ns i ≡ Some (node_of p)) number c.pattern-pattern.ensures.found in
    let Each : List Bool → Type 0 = λ tests. (i : ℕ) → i < length tests → (get_or tests i false ≡ true) ↔ Needs n (tree_of t ns i) in
    let row = c.needs-test.ensures (tree_of t ns) (subst Each (sym c.as_slice.ensures.value) c.rows.invariant.tests.each) in
    let long = ap length c.in_ok-push.ensures.items ∙ length-append old (c.needs-test.result ∷ []) in
    record {
      within = omega (arith, long, number, c.len.ensures, c.rows.tests.ok.0, c.len-in-rows.ensures, c.rows-test.true);
      tests = one_test t ns n old c.push.new.self.items c.needs-test.result c.rows.invariant.tests c.in_ok-push.ensures.items
          (subst (λ q. (c.needs-test.result ≡ true) ↔ Needs n q) (sym (is_over t ns (length old) p p c.pattern-pattern.ensures.table there refl)) row);
    }
