use Rattle.std.proofs.Common.{◌≡◌, ◌<◌, [], ◌∷◌, ◌++◌, length, slice_get, Some, true, false, rules, refl, subst, ap, ◌∙◌, arith}
use Rattle.std.proofs.lemmas.Option.{slice_get-get_or}
use Rattle.rng_model.proofs.Places.{read_at}
use Rattle.rng_model.proofs.Options.{one_value}
use Rattle.rng_simple.specs.plain.Copying.{AreCopied, own_elements, IsRowCopy}
use Rattle.rng_simple.specs.views.RowTable.{finished_labels}
use Rattle.rng_simple.proofs.Tables.RowCopies.{copied_as, copied_next, skipped, both_children}
use Rattle.rng_simple.proofs.copying.copied_rows.Goals as goal
use Rattle.rng_simple.proofs.copying.copied_rows.Goals.{then-reached-i+in_ok-pattern+in_ok-push+in_ok-push-2, else-reached-i+in_ok-push-3}

true_is_not_false : true ≡ false → ⊥
true_is_not_false e = cc

pub rows-preserved : goal.rows-preserved
rows-preserved c =
    let l = finished_labels c.args.table.now in
    let rs = c.args.table.now.rows.items in
    let reached = c.args.reached.now in
    let i = c.rows.i in
    let places = c.rows.places.items in
    let listed = c.rows.listed.items in
    let ps = c.rows.patterns.items in
    let within : i < length rs = search rules in
    let inside : i < length reached = omega (arith, within, c.requires.long) in
    elim c.if-reached-i.branch [
      | then-reached-i+in_ok-pattern+in_ok-push+in_ok-push-2 w ↦
          let r = w.index-row.result.now in
          let p = w.in_ok-pattern.pattern in
          let e : c.if-reached-i.places.items ≡ places ++ length ps ∷ [] = search rules in
          let f : c.if-reached-i.patterns.items ≡ ps ++ p ∷ [] = search rules in
          let g : c.if-reached-i.listed.items ≡ listed ++ own_elements r = search rules in
          let is : slice_get reached i ≡ Some true = slice_get-get_or reached i false inside ∙ ap (λ b. Some b) w.if-reached-i.true in
          let found : slice_get rs i ≡ Some r = read_at rs i r r within w.index-row.ensures refl in
          let falls = c.requires.rows.falls in
          let children = both_children (λ a. slice_get reached a ≡ Some true) i r (falls i r found) (c.requires.closed i r found is) in
          let copy = subst (λ xs. IsRowCopy l xs listed r p) w.as_slice.ensures.value w.in_ok-pattern.ensures.copy in
          copied_as l rs reached _ _ _ _ _ _ _ e f g
          (copied_next l rs reached i places listed ps c.rows.invariant r p falls c.requires.apart found is
          children copy)
      | else-reached-i+in_ok-push-3 w ↦
          let e : c.if-reached-i.places.items ≡ places ++ 0 ∷ [] = search rules in
          let f : c.if-reached-i.patterns.items ≡ ps = search rules in
          let g : c.if-reached-i.listed.items ≡ listed = search rules in
          let is : slice_get reached i ≡ Some false = slice_get-get_or reached i false inside ∙ ap (λ b. Some b) w.if-reached-i.false in
          copied_as l rs reached _ _ _ _ _ _ _ e f g
          (skipped l rs reached i places listed ps c.rows.invariant (λ h. true_is_not_false (one_value h is)))
    ]

pub returns : goal.returns
returns c =
    let rs = c.args.table.now.rows.items in
    let all : c.rows.i ≡ length rs = omega (arith, c.rows-test.false, c.rows.auto.i-end, c.len-i-end.ensures) in record {
      copied = subst (λ n. AreCopied (finished_labels c.args.table.now) rs c.args.reached.now n c.rows.places.items c.rows.patterns.items c.rows.listed.items)
          all c.rows.invariant;
    }
