use Rattle.std.proofs.Common.{◌≡◌, ◌∙◌, ◌<◌, false, true, get_or, length, refl, subst, sym, arith}
use Rattle.std.proofs.lemmas.List.{get_or_default}
use Rattle.rng_model.specs.names.NameViews.{name_of}
use Rattle.rng_deriv_table.specs.views.Trees.{tree_of}
use Rattle.rng_deriv_table.specs.declared.pattern.PatternNumber.{PatternNumber}
use Rattle.rng_expected.specs.Tags.{Needs}
use Rattle.rng_expected.proofs.NeededNames.{all_of_first, one_more}
use Rattle.rng_expected.proofs.needs.is_needed.Goals as goal

pub bodies-preserved : goal.bodies-preserved
bodies-preserved c =
    let t = c.args.grammar.now in
    let n = name_of c.args.name.now in
    let tests = c.in_ok-tests.tests.items in
    let k = (get_or c.args.bodies.now c.bodies.body-index (record { 0 = 0 })).0 in
    let below : k < length c.args.table.now = c.requires.bodies c.bodies.body-index (record { 0 = 0 }) c.bodies-test.true in
    let inside : k < length tests = omega (arith, below, c.in_ok-tests.ensures.long) in
    let holds : get_or tests k false ≡ true = get_or_default tests k false true inside
    ∙ sym (subst (λ v. v ≡ get_or tests k v) c.if-not-index.false c.index.ensures) in
    one_more (λ (b : PatternNumber). Needs n (tree_of t c.args.table.now b.0)) c.args.bodies.now c.bodies.body-index (record { 0 = 0 }) c.bodies-test.true
    c.bodies.invariant ((c.in_ok-tests.ensures.tests.each k inside).0 holds)

pub returns : goal.returns
returns c = (
  λ e. all_of_first (λ (b : PatternNumber). Needs (name_of c.args.name.now) (tree_of c.args.grammar.now c.args.table.now b.0)) c.args.bodies.now
      c.bodies.body-index c.bodies-test.false c.bodies.invariant,
  λ a. refl,
)
