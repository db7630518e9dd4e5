-- The laws of this crate.
use Rattle.std.proofs.Common.{◌≡◌, ◌↔◌, ℕ, List, [], ◌∷◌, refl, sym, ap, ◌∙◌, subst, Bool, true, false, Option, Some, None, slice_get}
use Rattle.std.proofs.lemmas.Bool.{false_from_ne_true}
use Rattle.rng_model.specs.names.Names.{Name, NameClass, In}
use Rattle.rng_model.specs.simple.Tree.{Simple}
use Rattle.rng_model.specs.matching.Document.{Attribute, an_element}
use Rattle.rng_model.specs.plain.WellFormed.{IsWellFormed}
use Rattle.rng_model.specs.matching.GrammarMatching.{IsValidBy}
use Rattle.rng_model.specs.simple.Grammar.{Grammar}
use Rattle.rng_model.specs.restrictions.Restrictions.{ClassIn}
use Rattle.rng_model.specs.datatypes.Texts.{TextTests, texts_of}
use Rattle.rng_model.specs.documents.PyxTrees.{PlacedItems, element_at, item_of, items_of, events_of}
use Rattle.rng_names.specs.plain.Holding.{holds}
use Rattle.rng_names.proofs.Holding.{holds-Decides}
use Rattle.rng_deriv_laws.specs.plain.Reading.{named_in}
use Rattle.rng_deriv_laws.specs.plain.States.{finished, after_of, after_item, accepts, is_never}
use Rattle.rng_deriv_laws.specs.plain.Events.{kinds, new, run, is_valid}
use Rattle.rng_model.specs.restrictions.RestrictionFaults.{BreaksNone}
use Rattle.rng_deriv_laws.specs.plain.Laws.{reading, AcceptsValidDocuments, NeverIsInvalid, UnknownNameIsNever, InvalidIsNever}
use Rattle.rng_deriv_laws.proofs.TakesAndMatches.{takes_in, takes_out}
use Rattle.rng_deriv_laws.proofs.Restricted.{start_may_start, start_restricted, bodies_restricted}
use Rattle.rng_deriv_laws.proofs.Document.{root_in, root_out}
use Rattle.rng_deriv_laws.proofs.Events.{kinds_append, kinds_of_document, run_root, never_accepts}
use Rattle.rng_deriv_laws.proofs.InvalidAt.{unknown_is_never, root_accepts}

module _ (g : Grammar) (keeps : BreaksNone g) (tests : TextTests) where
  -- the state after an element as a document
  state_after : (line : ℕ) (q : Name) (xs : List Attribute) (kids : PlacedItems) (last : ℕ) → IsWellFormed (an_element q xs (items_of kids)) →
      (run (reading g tests) (new g.start) (kinds (events_of (element_at line q xs kids last)))).state
      ≡ after_item (reading g tests) (an_element q xs (items_of kids)) (after_of g.start finished)
  state_after line q xs kids last f =
      ap (λ es. (run (reading g tests) (new g.start) es).state) (kinds_of_document (element_at line q xs kids last))
      ∙ run_root (reading g tests) q xs (items_of kids) f g.start

  element_valid_in : (line : ℕ) (q : Name) (xs : List Attribute) (kids : PlacedItems) (last : ℕ) → IsWellFormed (an_element q xs (items_of kids)) →
      is_valid (reading g tests) (kinds (events_of (element_at line q xs kids last))) ≡ true → IsValidBy g (texts_of tests) (an_element q xs (items_of kids))
  element_valid_in line q xs kids last f e =
      takes_out (reading g tests) g.start [] (an_element q xs (items_of kids) ∷ [])
      (root_out (reading g tests) (bodies_restricted g keeps) g.start (start_restricted g keeps) q xs (items_of kids) f
      (ap accepts (sym (state_after line q xs kids last f)) ∙ e))

  element_valid_out : (line : ℕ) (q : Name) (xs : List Attribute) (kids : PlacedItems) (last : ℕ) → IsWellFormed (an_element q xs (items_of kids)) →
      IsValidBy g (texts_of tests) (an_element q xs (items_of kids)) → is_valid (reading g tests) (kinds (events_of (element_at line q xs kids last))) ≡ true
  element_valid_out line q xs kids last f v =
      ap accepts (state_after line q xs kids last f)
      ∙ root_in (reading g tests) (bodies_restricted g keeps) g.start (start_restricted g keeps) q xs (items_of kids) f
      (takes_in (reading g tests) g.start [] (an_element q xs (items_of kids) ∷ []) v)

  element_invalid : (line : ℕ) (q : Name) (xs : List Attribute) (kids : PlacedItems) (last : ℕ) → IsWellFormed (an_element q xs (items_of kids)) →
      (IsValidBy g (texts_of tests) (an_element q xs (items_of kids)) → ⊥) → (b : Bool) →
      is_never (run (reading g tests) (new g.start) (kinds (events_of (element_at line q xs kids last)))).state ≡ b → b ≡ true
  element_invalid line q xs kids last f not true e = refl
  element_invalid line q xs kids last f not false e =
      let s = state_after line q xs kids last f in
      absurd (not (element_valid_in line q xs kids last f
      (ap accepts s ∙ root_accepts (reading g tests) g.start (start_may_start g keeps) q xs (items_of kids) (ap is_never (sym s) ∙ e))))

pub accepts_valid_documents : AcceptsValidDocuments
accepts_valid_documents g keeps tests d t =
    subst (λ x. (is_valid (reading g tests) (kinds (events_of x)) ≡ true) ↔ IsValidBy g (texts_of tests) (item_of x)) (sym t.is) (
      element_valid_in g keeps tests t.line t.name t.attributes t.kids t.last t.formed,
      element_valid_out g keeps tests t.line t.name t.attributes t.kids t.last t.formed,
    )

pub never_is_invalid : NeverIsInvalid
never_is_invalid g keeps tests es more h d is parts v =
    let e : is_valid (reading g tests) (kinds (events_of d)) ≡ true = (accepts_valid_documents g keeps tests d is).1 v in
    never_accepts (reading g tests) (kinds es) (kinds more) h
    (subst (λ l. is_valid (reading g tests) l ≡ true) (ap kinds parts ∙ kinds_append es more) e)

pub not_named : (g : Grammar) (q : Name) → ((k : ℕ) (c : NameClass) → ClassIn g k c → In c q → ⊥) → (k : ℕ) (o : Option (NameClass × Simple ℕ)) →
    slice_get g.elements k ≡ o → named_in o q ≡ false
not_named g q none k None e = refl
not_named g q none k (Some (c, p)) e = false_from_ne_true (holds c q) (λ h. none k c (p, e) ((holds-Decides c q).0 h))

pub unknown_name_is_never : UnknownNameIsNever
unknown_name_is_never g tests m q xs none =
    unknown_is_never (reading g tests) q (λ k. not_named g q none k (slice_get g.elements k) refl) m xs

pub invalid_is_never : InvalidIsNever
invalid_is_never g keeps tests d t =
    subst (λ x. (IsValidBy g (texts_of tests) (item_of x) → ⊥) → is_never (run (reading g tests) (new g.start) (kinds (events_of x))).state ≡ true) (sym t.is)
    (λ not. element_invalid g keeps tests t.line t.name t.attributes t.kids t.last t.formed not _ refl)
