-- Names that the attributes of a pattern may have.
use Rattle.std.proofs.Common.{◌≡◌, ◌∙◌, ℕ, ◌<◌, List, [], ◌∷◌, ◌++◌, All, Bool, true, false, ◌||◌, length, map, get_or, refl, sym, ap, ap₂, subst}
use Rattle.std.proofs.Common.{arith, ⊎_elim}
use Rattle.std.proofs.Math.Bool.{or-false}
use Rattle.std.proofs.lemmas.Bool.{cases_eq, or_left, or_right}
use Rattle.std.proofs.lemmas.List.{get_or_append_left, get_or_push, length-append}
use Rattle.std.proofs.lemmas.List.Elements.{All-head, All-tail}
use Rattle.std.specs.List.{list_any}
use Rattle.rng_model.specs.names.Names.{Name}
use Rattle.rng_model.specs.simple.Tree.{Simple}
use Rattle.rng_model.specs.matching.Document.{Attribute, Item, Interleaves}
use Rattle.rng_model.specs.matching.Document as document
use Rattle.rng_model.specs.matching.GrammarMatching.{Reading}
use Rattle.rng_deriv_laws.specs.plain.Blanks.{Every, nil, cons}
use Rattle.rng_deriv_laws.specs.plain.Taking.{Takes}
use Rattle.rng_deriv_laws.specs.plain.Taking as t
use Rattle.rng_deriv_table.specs.views.Trees.{choice_over}
use Rattle.rng_deriv_table.specs.declared.pattern.PatternNumber.{PatternNumber}
use Rattle.rng_reasons.specs.NamedAttributes.{has_named, AreTests}

-- ---- tests of the patterns of a table

-- a choice has what one of its members has
choice_named : (q : Name) (of : ℕ → Simple ℕ) (ms : List PatternNumber) → list_any (λ m. has_named q (of m.0)) ms ≡ has_named q (choice_over of (map (λ m. m.0) ms))
choice_named q of [] = refl
choice_named q of (m ∷ []) = or-false (has_named q (of m.0))
choice_named q of (m ∷ n ∷ ms) = ap (λ b. has_named q (of m.0) || b) (choice_named q of (n ∷ ms))

module _ (q : Name) (of : ℕ → Simple ℕ) (tests : List Bool) (are : AreTests q of tests) where
  members_named : (ms : List PatternNumber) → All (λ m. m.0 < length tests) ms
      → list_any (λ m. get_or tests m.0 false) ms ≡ list_any (λ m. has_named q (of m.0)) ms
  members_named [] below = refl
  members_named (m ∷ ms) below = ap₂ (λ a b. a || b) (are.each m.0 (All-head (λ (m : PatternNumber). m.0 < length tests) m ms below))
      (members_named ms (All-tail (λ (m : PatternNumber). m.0 < length tests) m ms below))

  -- a choice of these members
  pub members_tested : (ms : List PatternNumber) → All (λ m. m.0 < length tests) ms
      → list_any (λ m. get_or tests m.0 false) ms ≡ has_named q (choice_over of (map (λ m. m.0) ms))
  members_tested ms below = members_named ms below ∙ choice_named q of ms

module _ (q : Name) (of : ℕ → Simple ℕ) (old new : List Bool) (b : Bool) (was : AreTests q of old) (added : new ≡ old ++ b ∷ []) where
  -- the test of one more pattern
  pub one_test : b ≡ has_named q (of (length old)) → AreTests q of new
  one_test row =
      let long = ap length added ∙ length-append old (b ∷ []) in
      record { each = λ i within. ⊎_elim (this i) (λ ne. before i (omega (arith, within, ne, long))) (cases_eq i (length old)) }
    where
      before : (i : ℕ) → i < length old → get_or new i false ≡ has_named q (of i)
      before i within = ap (λ xs. get_or xs i false) added ∙ get_or_append_left old (b ∷ []) false i within ∙ was.each i within

      this : (i : ℕ) → i ≡ length old → get_or new i false ≡ has_named q (of i)
      this i e = subst (λ k. get_or new k false ≡ has_named q (of k)) (sym e)
          (ap (λ xs. get_or xs (length old) false) added ∙ get_or_push old b false (length old) refl ∙ row)

-- ---- attributes that a pattern takes

every_weaker : {A : Type 0} (P Q : A → Type 0) {xs : List A} → ((x : A) → P x → Q x) → Every P xs → Every Q xs
every_weaker P Q f nil = nil
every_weaker P Q f (cons p all) = cons (f _ p) (every_weaker P Q f all)

every_shared : {A : Type 0} (P : A → Type 0) {xs ys zs : List A} → Interleaves xs ys zs → Every P xs → Every P ys → Every P zs
every_shared P document.done a b = nil
every_shared P (document.left i) (cons p a) b = cons p (every_shared P i a b)
every_shared P (document.right i) a (cons p b) = cons p (every_shared P i a b)

module _ (g : Reading) where
  -- the pattern has an attribute with this name
  abbrev Names : Simple ℕ → Attribute → Type 0
  Names p a = has_named a.name p ≡ true

  either_names : (p q : Simple ℕ) {xs ys zs : List Attribute} → Interleaves xs ys zs → Every (Names p) xs → Every (Names q) ys
      → Every (λ a. (has_named a.name p || has_named a.name q) ≡ true) zs
  either_names p q i a b =
      every_shared (λ a. (has_named a.name p || has_named a.name q) ≡ true) i (every_weaker _ _ (λ x e. or_left _ _ e) a)
      (every_weaker _ _ (λ x e. or_right _ _ e) b)

  -- a pattern has each attribute that it takes
  pub each_named : {p : Simple ℕ} {xs : List Attribute} {ns : List Item} → Takes g p xs ns → Every (Names p) xs
  each_named t.empty_is = nil
  each_named (t.text_is all) = nil
  each_named (t.first d) = every_weaker _ _ (λ x e. or_left _ _ e) (each_named d)
  each_named (t.second d) = every_weaker _ _ (λ x e. or_right _ _ e) (each_named d)
  each_named (t.grouped {p = p} {q = q} d e i c) = either_names p q i (each_named d) (each_named e)
  each_named (t.interleaved {p = p} {q = q} d e i c) = either_names p q i (each_named d) (each_named e)
  each_named (t.once d) = each_named d
  each_named (t.again {p = p} d e apart i c) = every_shared (Names p) i (each_named d) (each_named e)
  each_named (t.attribute_is holds w) = cons holds nil
  each_named (t.element_is named w padded) = nil
  each_named (t.data_is e) = nil
  each_named (t.data_but e not) = nil
  each_named (t.value_is e) = nil
  each_named (t.list_is e d) = nil

  first_named : (p : Simple ℕ) (a : Attribute) (xs : List Attribute) → Every (Names p) (a ∷ xs) → has_named a.name p ≡ true
  first_named p a xs (cons e all) = e

  -- a pattern takes no attribute first whose name none of its attributes has
  pub not_taken : (p : Simple ℕ) (a : Attribute) (xs : List Attribute) (ns : List Item) → has_named a.name p ≡ false → Takes g p (a ∷ xs) ns → ⊥
  not_taken p a xs ns none d = let some = first_named p a xs (each_named d) in let no : false ≡ true = sym none ∙ some in absurd cc
