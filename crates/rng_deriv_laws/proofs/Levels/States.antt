-- Level states: each event that changes them as it must changes their meanings as it must.
use Rattle.std.proofs.Common.{◌≡◌, ◌↔◌, inl, inr, ℕ, zero, suc, List, [], ◌∷◌, refl, sym, ap, ◌∙◌, subst}
use Rattle.std.proofs.Common.{true, false, ◌||◌, ◌&&◌, Some, slice_get, Contains, All}
use Rattle.std.specs.List.{AllZip}
use Rattle.std.proofs.lemmas.Option.{same_Some, slice_get-get_or}
use Rattle.std.proofs.lemmas.List.Elements.{All-contains}
use Rattle.std.proofs.lemmas.Bool.{and_from, or_left, or_right, and_parts, or_cases}
use Rattle.rng_model.proofs.Places.{contains_at}
use Rattle.rng_model.specs.names.Names.{Name}
use Rattle.rng_model.specs.simple.Tree.{Simple}
use Rattle.rng_model.specs.matching.Document.{Attribute, Item, a_text, an_element, Items, list_of, no_texts, text_and, Distinct}
use Rattle.rng_model.specs.plain.WellFormed.{Separate}
use Rattle.rng_model.specs.datatypes.Texts.{is_blank}
use Rattle.rng_model.specs.matching.GrammarMatching.{Reading}
use Rattle.rng_deriv_laws.specs.plain.Reading.{has_name}
use Rattle.rng_deriv_laws.specs.plain.Taking.{Takes}
use Rattle.rng_deriv_laws.specs.plain.Taking as t
use Rattle.rng_deriv_laws.specs.plain.Blanks.{Every, IsNotBlank, IsBare, no_blanks, strings_alone, has_element, without_blanks}
use Rattle.rng_deriv_laws.specs.plain.Derivatives.{is_not_allowed, is_nullable}
use Rattle.rng_deriv_laws.specs.plain.States as states
use Rattle.rng_deriv_laws.specs.plain.Meanings.{IsEmpty, IsStart, IsAfterStart, IsAfterString, IsAfterEnd, IsAfterEndOfText}
use Rattle.rng_deriv_laws.specs.plain.LevelStates.{LevelState, HoldsAround, SomeHolds, HoldsInLevels, level_meaning, IsAfterText, IsAfterTag}
use Rattle.rng_deriv_laws.specs.plain.LevelStates.{IsBodyNamed, StartsLevel, TakesString, EndsLevel, EndsNow, EndsWith}
use Rattle.rng_deriv_laws.proofs.Nullable.{null_in, null_out}
use Rattle.rng_deriv_laws.proofs.States.{none_taken, none_contained}
use Rattle.rng_deriv_laws.proofs.Levels.{contains_in, contains_out, lone_in, lone_out}

-- ---- pairs of lists

-- the partner of an element of the first list, or of the second
pub beside_first : {A B : Type 0} (R : A → B → Type 0) (xs : List A) (ys : List B) (i : ℕ) (x : A) → AllZip R xs ys → slice_get xs i ≡ Some x
    → (y : B) × (slice_get ys i ≡ Some y) × R x y
beside_first R [] ys i x h e = absurd (cc)
beside_first R (x ∷ xs) [] i x' h e = absurd h
beside_first R (x ∷ xs) (y ∷ ys) zero x' h e = (y, refl, subst (λ z. R z y) (same_Some _ _ e) h.0)
beside_first R (x ∷ xs) (y ∷ ys) (suc i) x' h e = beside_first R xs ys i x' h.1 e

pub beside_second : {A B : Type 0} (R : A → B → Type 0) (xs : List A) (ys : List B) (i : ℕ) (y : B) → AllZip R xs ys → slice_get ys i ≡ Some y
    → (x : A) × (slice_get xs i ≡ Some x) × R x y
beside_second R [] [] i y h e = absurd (cc)
beside_second R [] (y ∷ ys) i y' h e = absurd h
beside_second R (x ∷ xs) [] i y' h e = absurd (cc)
beside_second R (x ∷ xs) (y ∷ ys) zero y' h e = (x, refl, subst (λ z. R x z) (same_Some _ _ e) h.0)
beside_second R (x ∷ xs) (y ∷ ys) (suc i) y' h e = beside_second R xs ys i y' h.1 e

pub found_at : {A : Type 0} (xs : List A) (x : A) (c : Contains xs x) → slice_get xs c.0 ≡ Some x
found_at xs x c = slice_get-get_or xs c.0 x c.1 ∙ ap Some c.2

module _ (g : Reading) where
  -- ---- a start tag

  module _ (q : Name) (xs : List Attribute) (m n : LevelState) (s : StartsLevel g q xs m n) where
    begins_out : (kids : Items) (ns : List Item) (ls : List (List Item)) → Distinct xs → Separate (list_of kids) →
        (level_meaning g n).begins (list_of kids) (ns ∷ ls) → HoldsInLevels g m ((an_element q xs kids ∷ ns) ∷ ls)
    begins_out kids ns ls u apart (j, p, found, d, h) =
        let k = subst (λ levels. HoldsAround g levels j (ns ∷ ls)) s.levels h in
        let b = beside_second (IsAfterTag g xs) s.bodies n.now j p s.entered found in
        let w = contains_out g b.0 p xs (λ ns. (b.2 u ns).0) (list_of kids) apart (has_element (list_of kids)) refl d in
        let o = s.opened.back k.0.outer xs kids ns (k.0, b.0, k.1, refl, subst (λ j. slice_get s.bodies j ≡ Some b.0) (sym k.2) b.1, w, k.3) in
        (k.0.outer, o.0, o.1, o.2, k.4)

    begins_in : (kids : Items) (ns : List Item) (ls : List (List Item)) → Distinct xs → Every IsNotBlank ns →
        HoldsInLevels g m ((an_element q xs kids ∷ ns) ∷ ls) → (level_meaning g n).begins (list_of kids) (ns ∷ ls)
    begins_in kids ns ls u all (i, p, found, d, h) =
        let o = s.opened.to i p xs kids ns found all d in
        let b = beside_first (IsAfterTag g xs) s.bodies n.now o.0.inner o.1 s.entered o.4 in
        let body = All-contains (IsBodyNamed g q) s.bodies o.1 s.opened.each (contains_at s.bodies o.0.inner o.1 o.4) in
        let c = contains_in g o.1 b.0 body.typed xs (λ ns. (b.2 u ns).1) (list_of kids) (has_element (list_of kids)) refl o.5 in
        let around = subst (λ i. HoldsAround g m.levels i ls) (sym o.3) h in
        (o.0.inner, b.0, b.1, c, subst (λ levels. HoldsAround g levels o.0.inner (ns ∷ ls)) (sym s.levels) (o.0, o.2, refl, o.6, around))

    content_in : (kids : List Item) (ls : List (List Item)) → has_element kids ≡ true → (level_meaning g n).begins kids ls
        → HoldsInLevels g n (without_blanks kids ∷ ls)
    content_in kids ls e (j, p, found, d, h) = (j, p, found, subst (λ b. states.Contains g b p kids) e d, h)

    content_out : (kids : List Item) (ls : List (List Item)) → has_element kids ≡ true → HoldsInLevels g n (without_blanks kids ∷ ls)
        → (level_meaning g n).begins kids ls
    content_out kids ls e (j, p, found, d, h) = (j, p, found, subst (λ b. states.Contains g b p kids) (sym e) d, h)

    pub start_is_after : IsAfterStart (level_meaning g m) (level_meaning g n) q xs
    start_is_after = record {
      begins = λ kids ns ls u apart all. (begins_out kids ns ls u apart, begins_in kids ns ls u all);
      content = λ kids ls e. (content_in kids ls e, content_out kids ls e);
    }

  -- ---- a string beside an element

  module _ (s : List ℕ) (m n : LevelState) (t : TakesString g s m n) where
    string_out : (ns : List Item) (ls : List (List Item)) → Every IsNotBlank (a_text s ∷ ns) → HoldsInLevels g n (ns ∷ ls)
        → HoldsInLevels g m ((a_text s ∷ ns) ∷ ls)
    string_out ns ls all (j, q, found, d, h) =
        let p = beside_second (IsAfterText g s) m.now n.now j q t.now found in
        (j, p.0, p.1, (p.2 ns (no_blanks all)).0 d, subst (λ levels. HoldsAround g levels j ls) t.levels h)

    string_in : (ns : List Item) (ls : List (List Item)) → Every IsNotBlank (a_text s ∷ ns) → HoldsInLevels g m ((a_text s ∷ ns) ∷ ls)
        → HoldsInLevels g n (ns ∷ ls)
    string_in ns ls all (j, p, found, d, h) =
        let q = beside_first (IsAfterText g s) m.now n.now j p t.now found in
        (j, q.0, q.1, (q.2 ns (no_blanks all)).1 d, subst (λ levels. HoldsAround g levels j ls) (sym t.levels) h)

    pub string_is_after : IsAfterString (level_meaning g m) (level_meaning g n) s
    string_is_after ns ls all = (string_out ns ls all, string_in ns ls all)

  -- ---- the end of an element

  module _ (MayEnd : Simple ℕ → Type 0) (m n : LevelState) (e : EndsLevel g MayEnd m n) where
    ended_out : (ls : List (List Item)) → HoldsInLevels g n ls → SomeHolds g MayEnd m ls
    ended_out [] h = absurd h
    ended_out (ns ∷ ls) (i, r, found, d, h) =
        let o = e.ended.back i r ns found d in
        let p = beside_second (λ p b. (b ≡ true) ↔ MayEnd p) m.now e.good o.0.inner true e.which o.3 in (
          o.0.inner,
          p.0,
          p.1,
          p.2.0 refl,
          subst (λ levels. HoldsAround g levels o.0.inner (ns ∷ ls)) (sym e.levels)
              (o.0, o.1, refl, o.4, subst (λ i. HoldsAround g n.levels i ls) (sym o.2) h),
        )

    none_around : (j : ℕ) → HoldsAround g m.levels j [] → ⊥
    none_around j h = subst (λ levels. HoldsAround g levels j []) e.levels h

    ended_in : (ls : List (List Item)) → SomeHolds g MayEnd m ls → HoldsInLevels g n ls
    ended_in [] (j, p, found, d, h) = none_around j h
    ended_in (ns ∷ ls) (j, p, found, d, h) =
        let k = subst (λ levels. HoldsAround g levels j (ns ∷ ls)) e.levels h in
        let b = beside_first (λ p b. (b ≡ true) ↔ MayEnd p) m.now e.good j p e.which found in
        let good = b.1 ∙ ap Some (b.2.1 d) in
        let o = e.ended.to k.0 ns k.1 (subst (λ j. slice_get e.good j ≡ Some true) (sym k.2) good) k.3 in
        (k.0.outer, o.0, o.1, o.2, k.4)

  pub end_is_after : (m n : LevelState) → EndsLevel g (EndsNow g) m n → IsAfterEnd (level_meaning g m) (level_meaning g n)
  end_is_after m n e ls = (ended_out (EndsNow g) m n e ls, ended_in (EndsNow g) m n e ls)

  pub end_of_text_is_after : (s : List ℕ) (m n : LevelState) → EndsLevel g (EndsWith g s) m n → IsAfterEndOfText (level_meaning g m) (level_meaning g n) s
  end_of_text_is_after s m n e kids ls apart none is = (
    λ h. let o = ended_out (EndsWith g s) m n e ls h in (
      o.0,
      o.1,
      o.2,
      subst (λ b. states.Contains g b o.1 kids) (sym none)
          (lone_out g o.1 kids apart none (subst (λ s. EndsWith g s o.1) (sym is) o.3)),
      o.4,
    ),
    λ h. ended_in (EndsWith g s) m n e ls
        (h.0, h.1, h.2, subst (λ s. EndsWith g s h.1) is (lone_in g h.1 kids apart none (subst (λ b. states.Contains g b h.1 kids) none h.3)), h.4),
  )

  -- ---- the first state, the last one, and one with an empty meaning

  -- one alternative that takes what the start takes, and no open element
  pub first_is_start : (p : Simple ℕ) → ((ns : List Item) → Takes g p [] ns ↔ Takes g g.grammar.start [] ns) →
      IsStart g (level_meaning g (record { now = p ∷ []; levels = [] }))
  first_is_start p same ns = (λ h. (same ns).0 (first_out h), λ d. (0, p, refl, (same ns).1 d, tt)) where
    first_out : HoldsInLevels g (record { now = p ∷ []; levels = [] }) (ns ∷ []) → Takes g p [] ns
    first_out (zero, r, e, d, h) = subst (λ r. Takes g r [] ns) (sym (same_Some _ _ e)) d
    first_out (suc j, r, e, d, h) = absurd (cc)

  -- if no element is open, nothing need remain exactly if some alternative is nullable
  pub ended_by_nullable : (now : List (Simple ℕ)) →
      HoldsInLevels g (record { now = now; levels = [] }) ([] ∷ []) ↔ ((p : Simple ℕ) × Contains now p × (is_nullable p ≡ true))
  ended_by_nullable now = (λ h. (h.1, contains_at now h.0 h.1 h.2, null_in g h.1 h.3), nullable_ends) where
    nullable_ends : (p : Simple ℕ) × Contains now p × (is_nullable p ≡ true) → HoldsInLevels g (record { now = now; levels = [] }) ([] ∷ [])
    nullable_ends (p, c, e) = (c.0, p, found_at now p c, null_out g p e, tt)

  no_alternative : (m : LevelState) (j : ℕ) (p : Simple ℕ) → All (λ p. is_not_allowed p ≡ true) m.now → slice_get m.now j ≡ Some p → is_not_allowed p ≡ true
  no_alternative m j p all e = All-contains (λ p. is_not_allowed p ≡ true) m.now p all (contains_at m.now j p e)

  -- all alternatives are notAllowed
  pub none_allowed : (m : LevelState) → All (λ p. is_not_allowed p ≡ true) m.now → IsEmpty (level_meaning g m)
  none_allowed m all = record {
    holds = λ ls h. nothing_held ls h;
    begins = λ kids ls h. none_contained g (has_element kids) h.1 kids (no_alternative m h.0 h.1 all h.2) h.3;
  } where
    nothing_held : (ls : List (List Item)) → HoldsInLevels g m ls → ⊥
    nothing_held [] h = h
    nothing_held (ns ∷ ls) h = none_taken g h.1 ns (no_alternative m h.0 h.1 all h.2) h.3

  -- no alternative is left after a start whose name no element has
  pub unknown_leaves_none : (q : Name) (xs : List Attribute) (m n : LevelState) → ((k : ℕ) → has_name g k q ≡ false) → StartsLevel g q xs m n → n.now ≡ []
  unknown_leaves_none q xs m n none s = nothing_beside s.bodies n.now (λ b c. no_body (All-contains (IsBodyNamed g q) s.bodies b s.opened.each c))
      s.entered where
        no_body : {b : Simple ℕ} → IsBodyNamed g q b → ⊥
        no_body b = let is = b.named in let not = none b.element in cc

        nothing_beside : (bodies now : List (Simple ℕ)) → ((b : Simple ℕ) → Contains bodies b → ⊥) → AllZip (IsAfterTag g xs) bodies now → now ≡ []
        nothing_beside [] [] f h = refl
        nothing_beside [] (p ∷ ps) f h = absurd h
        nothing_beside (b ∷ bs) now f h = absurd (f b (contains_at (b ∷ bs) 0 b refl))

  -- ---- which alternatives may end

  pub nullable_may_end : (p : Simple ℕ) → (is_nullable p ≡ true) ↔ EndsNow g p
  nullable_may_end p = (null_out g p, null_in g p)

  -- by what is left of the alternative after the string
  pub may_end_with : (s : List ℕ) (p r : Simple ℕ) → IsAfterText g s p r → (is_nullable r || (is_nullable p && is_blank s) ≡ true) ↔ EndsWith g s p
  may_end_with s p r a = (may_end, ending) where
    bare : IsBare (a_text s ∷ [])
    bare = strings_alone (text_and no_texts)

    may_end : is_nullable r || (is_nullable p && is_blank s) ≡ true → EndsWith g s p
    may_end e = elim (or_cases (is_nullable r) (is_nullable p && is_blank s) e) [
      | inl f ↦ t.as_is ((a [] bare).0 (null_out g r f))
      | inr f ↦ let k = and_parts (is_nullable p) (is_blank s) f in t.blank_text (null_out g p k.0) k.1
    ]

    ending : EndsWith g s p → is_nullable r || (is_nullable p && is_blank s) ≡ true
    ending (t.as_is d) = or_left _ _ (null_in g r ((a [] bare).1 d))
    ending (t.blank_text d b) = or_right _ _ (and_from _ _ (null_in g p d) b)
