use Rattle.std.proofs.Common.{◌≡◌, ◌++◌, ◌∷◌, [], ◌<◌, ap, arith, length, slice_get, slice_index_or, Some, subst, sym, false, true≢false, ◌∙◌}
use Rattle.std.proofs.Common.{List}
use Rattle.std.proofs.lemmas.List.{length_push}
use Rattle.std.proofs.lemmas.Option.{get_or_from_slice_get}
use Rattle.rng_deriv_table.specs.views.Node.{node_of}
use Rattle.rng_deriv_table.specs.views.Node as node
use Rattle.rng_deriv_table.specs.views.PatternTable.{ArePartsBelow, IsNew}
use Rattle.rng_deriv_table.specs.plain.Reduced.{AreReduced}
use Rattle.rng_deriv_table.specs.plain.Selecting.{AreCopied, IsMarked, given_for, node_at, renumbered}
use Rattle.rng_deriv_table.specs.views.Trees.{tree_of}
use Rattle.rng_deriv_table.specs.declared.pattern.PatternNumber.{PatternNumber}
use Rattle.rng_deriv_table.proofs.CopiedPatterns.{copy_below, copy_new, copy_reduced, one_copied, passed_over}
use Rattle.rng_deriv_table.proofs.pattern_table.PatternTable.copied.Goals as goal

pub rows-preserved-then-not-marks-number : goal.rows-preserved-then-not-marks-number
rows-preserved-then-not-marks-number c =
    let ns = c.args.self.now in
    let ms = c.rows.table in
    let marks = c.args.marks.now in
    let given = c.rows.given.items in
    let within = c.rows.invariant.within in
    let at : c.len-in-rows-2.result ≡ length given = omega (arith, c.len-in-rows-2.ensures, c.rows.given.ok.0) in
    let test = c.rows-test.true in
    let next : length given < length ns = omega (arith, test, c.len.ensures, c.len-in-rows.ensures, c.rows.given.ok.0) in
    let unmarked : IsMarked marks (length given) → ⊥ =
    λ m. true≢false (sym m ∙ ap (λ i. slice_index_or marks i false) (sym at) ∙ c.if-not-marks-number.true) in
    let long = ap length c.in_ok-push.ensures.items ∙ length_push given (record { 0 = 0 }) in
    record {
      within = omega (arith, long, next);
      copied = subst (AreCopied ns marks ms) (sym c.in_ok-push.ensures.items)
          (passed_over ns ms marks given c.pattern-pattern.ensures.table within c.rows.invariant.copied (record { 0 = 0 }) unmarked);
    }

pub add-requires-clause-below : goal.add-requires-clause-below
add-requires-clause-below c =
    let ns = c.args.self.now in
    let ms = c.rows.table in
    let marks = c.args.marks.now in
    let given = c.rows.given.items in
    let within = c.rows.invariant.within in
    let at : c.len-in-rows-2.result ≡ length given = omega (arith, c.len-in-rows-2.ensures, c.rows.given.ok.0) in
    let test = c.rows-test.true in
    let next : length given < length ns = omega (arith, test, c.len.ensures, c.len-in-rows.ensures, c.rows.given.ok.0) in
    let marked : IsMarked marks (length given) = subst (IsMarked marks) at c.if-not-marks-number.false in
    let found : slice_get ns (length given) ≡ Some (node_of c.pattern-pattern.result.now) =
    subst (λ i. slice_get ns i ≡ Some (node_of c.pattern-pattern.result.now)) at c.pattern-pattern.ensures.found in
    let here : node_of c.pattern-pattern.result.now ≡ node_at ns (length given) = sym (get_or_from_slice_get ns (length given) _ node.not_allowed found) in
    let Given : List PatternNumber → Type 0 = λ given. node_of c.in_ok-copy.copy ≡ renumbered (given_for given) (node_of c.pattern-pattern.result.now) in
    let is : node_of c.in_ok-copy.copy ≡ renumbered (given_for given) (node_at ns (length given)) =
    subst Given c.as_slice.ensures.value c.in_ok-copy.ensures ∙ ap (renumbered (given_for given)) here in
    subst (ArePartsBelow (length ms)) (sym is)
    (copy_below ns ms marks given c.pattern-pattern.ensures.table within c.rows.invariant.copied c.requires next marked)

pub add-requires-clause-reduced : goal.add-requires-clause-reduced
add-requires-clause-reduced c =
    let ns = c.args.self.now in
    let ms = c.rows.table in
    let marks = c.args.marks.now in
    let given = c.rows.given.items in
    let within = c.rows.invariant.within in
    let at : c.len-in-rows-2.result ≡ length given = omega (arith, c.len-in-rows-2.ensures, c.rows.given.ok.0) in
    let test = c.rows-test.true in
    let next : length given < length ns = omega (arith, test, c.len.ensures, c.len-in-rows.ensures, c.rows.given.ok.0) in
    let marked : IsMarked marks (length given) = subst (IsMarked marks) at c.if-not-marks-number.false in
    let found : slice_get ns (length given) ≡ Some (node_of c.pattern-pattern.result.now) =
    subst (λ i. slice_get ns i ≡ Some (node_of c.pattern-pattern.result.now)) at c.pattern-pattern.ensures.found in
    let here : node_of c.pattern-pattern.result.now ≡ node_at ns (length given) = sym (get_or_from_slice_get ns (length given) _ node.not_allowed found) in
    let Given : List PatternNumber → Type 0 = λ given. node_of c.in_ok-copy.copy ≡ renumbered (given_for given) (node_of c.pattern-pattern.result.now) in
    let is : node_of c.in_ok-copy.copy ≡ renumbered (given_for given) (node_at ns (length given)) =
    subst Given c.as_slice.ensures.value c.in_ok-copy.ensures ∙ ap (renumbered (given_for given)) here in
    λ t. subst (AreReduced (tree_of t ms)) (sym is)
    (copy_reduced ns ms marks given c.pattern-pattern.ensures.table within c.rows.invariant.copied c.requires next marked t)

pub add-requires-clause-new : goal.add-requires-clause-new
add-requires-clause-new c =
    let ns = c.args.self.now in
    let ms = c.rows.table in
    let marks = c.args.marks.now in
    let given = c.rows.given.items in
    let within = c.rows.invariant.within in
    let at : c.len-in-rows-2.result ≡ length given = omega (arith, c.len-in-rows-2.ensures, c.rows.given.ok.0) in
    let test = c.rows-test.true in
    let next : length given < length ns = omega (arith, test, c.len.ensures, c.len-in-rows.ensures, c.rows.given.ok.0) in
    let marked : IsMarked marks (length given) = subst (IsMarked marks) at c.if-not-marks-number.false in
    let found : slice_get ns (length given) ≡ Some (node_of c.pattern-pattern.result.now) =
    subst (λ i. slice_get ns i ≡ Some (node_of c.pattern-pattern.result.now)) at c.pattern-pattern.ensures.found in
    let here : node_of c.pattern-pattern.result.now ≡ node_at ns (length given) = sym (get_or_from_slice_get ns (length given) _ node.not_allowed found) in
    let Given : List PatternNumber → Type 0 = λ given. node_of c.in_ok-copy.copy ≡ renumbered (given_for given) (node_of c.pattern-pattern.result.now) in
    let is : node_of c.in_ok-copy.copy ≡ renumbered (given_for given) (node_at ns (length given)) =
    subst Given c.as_slice.ensures.value c.in_ok-copy.ensures ∙ ap (renumbered (given_for given)) here in
    subst (IsNew ms) (sym is) (copy_new ns ms marks given c.pattern-pattern.ensures.table within c.rows.invariant.copied c.requires next marked)

pub rows-preserved : goal.rows-preserved
rows-preserved c =
    let ns = c.args.self.now in
    let ms = c.rows.table in
    let marks = c.args.marks.now in
    let given = c.rows.given.items in
    let within = c.rows.invariant.within in
    let at : c.len-in-rows-2.result ≡ length given = omega (arith, c.len-in-rows-2.ensures, c.rows.given.ok.0) in
    let test = c.rows-test.true in
    let next : length given < length ns = omega (arith, test, c.len.ensures, c.len-in-rows.ensures, c.rows.given.ok.0) in
    let marked : IsMarked marks (length given) = subst (IsMarked marks) at c.if-not-marks-number.false in
    let found : slice_get ns (length given) ≡ Some (node_of c.pattern-pattern.result.now) =
    subst (λ i. slice_get ns i ≡ Some (node_of c.pattern-pattern.result.now)) at c.pattern-pattern.ensures.found in
    let here : node_of c.pattern-pattern.result.now ≡ node_at ns (length given) = sym (get_or_from_slice_get ns (length given) _ node.not_allowed found) in
    let Given : List PatternNumber → Type 0 = λ given. node_of c.in_ok-copy.copy ≡ renumbered (given_for given) (node_of c.pattern-pattern.result.now) in
    let is : node_of c.in_ok-copy.copy ≡ renumbered (given_for given) (node_at ns (length given)) =
    subst Given c.as_slice.ensures.value c.in_ok-copy.ensures ∙ ap (renumbered (given_for given)) here in
    let number = c.in_ok-add.field-0 in
    let long = ap length c.in_ok-push-2.ensures.items ∙ length_push given number in
    let added = c.in_ok-add.ensures.added in
    record {
      within = omega (arith, long, next);
      copied = subst (AreCopied ns marks c.add.new.self) (sym c.in_ok-push-2.ensures.items)
          (one_copied ns ms marks given c.pattern-pattern.ensures.table within c.rows.invariant.copied c.requires next marked c.add.new.self number
          (added.1 ∙ ap (λ n. ms ++ n ∷ []) is) added.0);
    }
