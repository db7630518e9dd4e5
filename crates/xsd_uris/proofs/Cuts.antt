-- A text is cut at the first character that passes a test.
use Rattle.std.proofs.Common.{◌≡◌, ℕ, List, [], ◌∷◌, ◌++◌, Bool, true, false, not, refl, ap, ◌∙◌}
use Rattle.std.proofs.lemmas.Bool.{and_from, and_parts, not-true, not_from_false, cond-true, cond-false}
use Rattle.xsd_uris.specs.plain.UriShapes.{none, before, from}

module _ (p : ℕ → Bool) where
  pub before_whole : (s : List ℕ) → none p s ≡ true → before p s ≡ s
  before_whole [] h = refl
  before_whole (c ∷ s) h =
      let f = and_parts (not (p c)) (none p s) h in cond-false (p c) [] (c ∷ before p s) (not-true _ f.0) ∙ ap (λ x. c ∷ x) (before_whole s f.1)

  pub from_whole : (s : List ℕ) → none p s ≡ true → from p s ≡ []
  from_whole [] h = refl
  from_whole (c ∷ s) h =
      let f = and_parts (not (p c)) (none p s) h in cond-false (p c) (c ∷ s) (from p s) (not-true _ f.0) ∙ from_whole s f.1

  pub before_cut : (s : List ℕ) (c : ℕ) (t : List ℕ) → none p s ≡ true → p c ≡ true → before p (s ++ c ∷ t) ≡ s
  before_cut [] c t h k = cond-true (p c) [] (c ∷ before p t) k
  before_cut (d ∷ s) c t h k =
      let f = and_parts (not (p d)) (none p s) h in
      cond-false (p d) [] (d ∷ before p (s ++ c ∷ t)) (not-true _ f.0) ∙ ap (λ x. d ∷ x) (before_cut s c t f.1 k)

  pub from_cut : (s : List ℕ) (c : ℕ) (t : List ℕ) → none p s ≡ true → p c ≡ true → from p (s ++ c ∷ t) ≡ c ∷ t
  from_cut [] c t h k = cond-true (p c) (c ∷ t) (from p t) k
  from_cut (d ∷ s) c t h k =
      let f = and_parts (not (p d)) (none p s) h in cond-false (p d) (d ∷ (s ++ c ∷ t)) (from p (s ++ c ∷ t)) (not-true _ f.0) ∙ from_cut s c t f.1 k

  pub data Cut (s : List ℕ) : Type 0 where
    whole : none p s ≡ true → Cut s
    parts : (front : List ℕ) (c : ℕ) (back : List ℕ) → none p front ≡ true → p c ≡ true → s ≡ front ++ c ∷ back → Cut s

  longer : (d : ℕ) (s : List ℕ) → p d ≡ false → Cut s → Cut (d ∷ s)
  longer d s h (whole k) = whole (and_from _ _ (not_from_false _ h) k)
  longer d s h (parts front c back k e w) = parts (d ∷ front) c back (and_from _ _ (not_from_false _ h) k) e (ap (λ x. d ∷ x) w)

  pub cut : (s : List ℕ) → Cut s
  cut [] = whole refl
  cut (c ∷ s) = by (p c) refl (cut s) where
    by : (b : Bool) → p c ≡ b → Cut s → Cut (c ∷ s)
    by true e k = parts [] c s refl e refl
    by false e k = longer c s e k
