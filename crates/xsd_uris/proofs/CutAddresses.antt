-- Addresses by their groups and numbers.
use Rattle.std.proofs.Common.{◌≡◌, ℕ, List, [], ◌∷◌, Bool, true, false, ◌&&◌, ◌||◌, refl, ap, sym, ◌∙◌, rules}
use Rattle.std.specs.List.{list_all, slice_split}
use Rattle.std.proofs.lemmas.Bool.{and_left, and_right}
use Rattle.xsd_uris.specs.plain.UriShapes.{is, from, before, is_digit, is_number, is_group, are_four, are_groups, is_dotted, is_sequence}
use Rattle.xsd_uris.proofs.TextParts.{split-parts, split-one}

some_by : (p : ℕ → Bool) (s f : List ℕ) → from p s ≡ f → (h : List ℕ) × (hs : List (List ℕ)) × (slice_split p s ≡ h ∷ hs)
some_by p s [] e = (s, [], split-one p s e)
some_by p s (c ∷ t) e = (before p s, slice_split p t, split-parts p c s t e)

-- there is a first part
split_some : (p : ℕ → Bool) (s : List ℕ) → (h : List ℕ) × (hs : List (List ℕ)) × (slice_split p s ≡ h ∷ hs)
split_some p s = some_by p s (from p s) refl

dot_step : (c x : ℕ) (s t : List ℕ) (b : Bool) → is 0x2E c ≡ b → (from (is 0x2E) s ≡ x ∷ t → list_all is_digit s ≡ false)
    → from (is 0x2E) (c ∷ s) ≡ x ∷ t → list_all is_digit (c ∷ s) ≡ false
dot_step c x s t true e ih is = search rules
dot_step c x s t false e ih is = and_right (is_digit c) (list_all is_digit s) (search rules)

-- a text with a dot is no number
not_digits : (x : ℕ) (s t : List ℕ) → from (is 0x2E) s ≡ x ∷ t → list_all is_digit s ≡ false
not_digits x [] t e = search rules
not_digits x (c ∷ s) t e = dot_step c x s t (is 0x2E c) refl (not_digits x s t) e

last_by : (a b c d f : List ℕ) → from (is 0x2E) d ≡ f
    → are_four (a ∷ b ∷ c ∷ slice_split (is 0x2E) d) ≡ ((is_number a && is_number b) && (is_number c && is_number d))
last_by a b c d [] e = ap (λ x. are_four (a ∷ b ∷ c ∷ x)) (split-one (is 0x2E) d e)
last_by a b c d (x ∷ t) e =
    let more = split_some (is 0x2E) t in
    let none : is_number d ≡ false = and_left (list_all is_digit d) _ (not_digits x d t e) in
    ap (λ y. are_four (a ∷ b ∷ c ∷ y)) (split-parts (is 0x2E) x d t e ∙ ap (λ y. before (is 0x2E) d ∷ y) more.2)
    ∙ sym (and_right (is_number a && is_number b) _ (and_right (is_number c) (is_number d) none))

pub dotted_four : (s a b c d t u : List ℕ) → slice_split (is 0x2E) s ≡ a ∷ slice_split (is 0x2E) t → slice_split (is 0x2E) t ≡ b ∷ slice_split (is 0x2E) u
    → slice_split (is 0x2E) u ≡ c ∷ slice_split (is 0x2E) d → is_dotted s ≡ ((is_number a && is_number b) && (is_number c && is_number d))
dotted_four s a b c d t u p q r = ap are_four (p ∙ ap (λ x. a ∷ x) (q ∙ ap (λ x. b ∷ x) r)) ∙ last_by a b c d (from (is 0x2E) d) refl

-- a group and the groups behind it
pub sequence_more : (s g t : List ℕ) → slice_split (is 0x3A) s ≡ g ∷ slice_split (is 0x3A) t → is_sequence s ≡ (is_group g && is_sequence t)
sequence_more s g t e =
    let more = split_some (is 0x3A) t in
    ap are_groups (e ∙ ap (λ x. g ∷ x) more.2) ∙ sym (ap (λ x. is_group g && are_groups x) more.2)

pub sequence_one : (s : List ℕ) → slice_split (is 0x3A) s ≡ s ∷ [] → is_sequence s ≡ (is_group s || is_dotted s)
sequence_one s e = ap are_groups e
