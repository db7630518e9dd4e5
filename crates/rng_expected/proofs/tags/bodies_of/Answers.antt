use Rattle.std.proofs.Common.{[], ◌∷◌, All, subst, sym}
use Rattle.std.proofs.lemmas.List.Elements.{All-append, All-cons, All-nil}
use Rattle.rng_model.specs.names.NameViews.{name_of}
use Rattle.rng_deriv_laws.specs.plain.Restricted.{IsRestricted}
use Rattle.rng_deriv_table.specs.views.Trees.{tree_of}
use Rattle.rng_deriv_table.specs.declared.pattern.PatternNumber.{PatternNumber}
use Rattle.rng_expected.specs.plain.TagLeaves.{IsBodyLike, IsNamed}
use Rattle.rng_expected.proofs.TagLeaves.{none_told, one_element, one_told}
use Rattle.rng_expected.proofs.tags.bodies_of.Goals as goal

pub starts-preserved-in_default : goal.starts-preserved-in_default
starts-preserved-in_default c =
    let t = c.args.context.now.grammar.now in
    let ns = c.args.table.now in (
      none_told t ns c.args.starts.now c.starts.leaf-index _ c.starts-test.true (IsNamed t ns (name_of c.args.name.now)) (IsBodyLike t ns)
          c.starts.bodies.items c.starts.invariant.0 c.in_default.ensures.body,
      c.starts.invariant.1,
    )

pub starts-preserved : goal.starts-preserved
starts-preserved c =
    let t = c.args.context.now.grammar.now in
    let ns = c.args.table.now in
    let q = name_of c.args.name.now in
    let Obeys : PatternNumber → Type 0 = λ b. IsRestricted (tree_of t ns b.0) in (
      one_told t ns c.args.starts.now c.starts.leaf-index _ c.starts-test.true (IsNamed t ns q) (IsBodyLike t ns) c.starts.bodies.items
          c.starts.invariant.0 (one_element t ns q) c.in-Some.body c.push.new.self.items c.in-Some.ensures.body c.in_ok-push.ensures.items,
      λ each. subst (All Obeys) (sym c.in_ok-push.ensures.items)
          (All-append Obeys c.starts.bodies.items (c.in-Some.body ∷ []) (c.starts.invariant.1 each)
          (All-cons Obeys c.in-Some.body [] (c.in-Some.ensures.restricted each) (All-nil Obeys))),
    )
