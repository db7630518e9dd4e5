-- Texts with whole escapes and without some characters.
use Rattle.std.proofs.Common.{◌≡◌, ℕ, List, [], ◌∷◌, ◌++◌, Bool, true, false, not, ◌||◌}
use Rattle.std.proofs.Common.{refl, sym, ◌∙◌, inl, inr}
use Rattle.std.specs.Prelude.{nat_le}
use Rattle.std.specs.List.{list_all}
use Rattle.std.proofs.lemmas.Bool.{and_from, and_parts, or_left, or_right, or_cases, or_from, or_parts, not-true, not_from_false, false≢true}
use Rattle.std.proofs.lemmas.List.Folds.{list_all-append}
use Rattle.xsd_uris.specs.plain.UriShapes.{is, none, is_hex, begin_escape, are_escapes_whole}

-- ---- tests of all characters

module _ {X : Type 0} (p : X → Bool) where
  pub all_join : (s t : List X) → list_all p s ≡ true → list_all p t ≡ true → list_all p (s ++ t) ≡ true
  all_join s t a b = list_all-append p s t ∙ and_from _ _ a b

  pub all_front : (s t : List X) → list_all p (s ++ t) ≡ true → list_all p s ≡ true
  all_front s t h = (and_parts (list_all p s) (list_all p t) (sym (list_all-append p s t) ∙ h)).0

  pub all_behind : (s t : List X) → list_all p (s ++ t) ≡ true → list_all p t ≡ true
  all_behind s t h = (and_parts (list_all p s) (list_all p t) (sym (list_all-append p s t) ∙ h)).1

module _ (p q : ℕ → Bool) where
  pub none_or : (s : List ℕ) → none p s ≡ true → none q s ≡ true → none (λ c. p c || q c) s ≡ true
  none_or [] a b = refl
  none_or (c ∷ s) a b =
      let f = and_parts (not (p c)) (none p s) a in
      let g = and_parts (not (q c)) (none q s) b in
      and_from _ _ (not_from_false _ (or_from _ _ (not-true (p c) f.0) (not-true (q c) g.0))) (none_or s f.1 g.1)

  pub none_left : (s : List ℕ) → none (λ c. p c || q c) s ≡ true → none p s ≡ true
  none_left [] h = refl
  none_left (c ∷ s) h =
      let f = and_parts (not (p c || q c)) (none (λ c. p c || q c) s) h in
      and_from _ _ (not_from_false _ (or_parts (p c) (q c) (not-true _ f.0)).0) (none_left s f.1)

  pub none_right : (s : List ℕ) → none (λ c. p c || q c) s ≡ true → none q s ≡ true
  none_right [] h = refl
  none_right (c ∷ s) h =
      let f = and_parts (not (p c || q c)) (none (λ c. p c || q c) s) h in
      and_from _ _ (not_from_false _ (or_parts (p c) (q c) (not-true _ f.0)).1) (none_right s f.1)

-- ---- escapes

or_more : (x y z : Bool) → (y ≡ true → z ≡ true) → (x || y) ≡ true → (x || z) ≡ true
or_more x y z f h = elim (or_cases x y h) [ inl a ↦ or_left x z a | inr b ↦ or_right x z (f b) ]

begin_more : (s t : List ℕ) → begin_escape s ≡ true → begin_escape (s ++ t) ≡ true
begin_more [] t e = absurd (cc)
begin_more (a ∷ []) t e = absurd (cc)
begin_more (a ∷ b ∷ s) t e = e

begin_cut : (s : List ℕ) (c : ℕ) (t : List ℕ) → is_hex c ≡ false → begin_escape (s ++ c ∷ t) ≡ true → begin_escape s ≡ true
begin_cut [] c [] h e = absurd (cc)
begin_cut [] c (b ∷ t) h e = let f = and_parts (is_hex c) (is_hex b) e in absurd (false≢true (sym h ∙ f.0))
begin_cut (a ∷ []) c t h e = let f = and_parts (is_hex a) (is_hex c) e in absurd (false≢true (sym h ∙ f.1))
begin_cut (a ∷ b ∷ s) c t h e = e

pub escapes_join : (s t : List ℕ) → are_escapes_whole s ≡ true → are_escapes_whole t ≡ true → are_escapes_whole (s ++ t) ≡ true
escapes_join [] t a b = b
escapes_join (c ∷ s) t a b =
    let h = and_parts (not (is 0x25 c) || begin_escape s) (are_escapes_whole s) a in
    and_from _ _ (or_more (not (is 0x25 c)) (begin_escape s) (begin_escape (s ++ t)) (begin_more s t) h.0) (escapes_join s t h.1 b)

pub escapes_front : (s : List ℕ) (c : ℕ) (t : List ℕ) → is_hex c ≡ false → are_escapes_whole (s ++ c ∷ t) ≡ true → are_escapes_whole s ≡ true
escapes_front [] c t h e = refl
escapes_front (d ∷ s) c t h e =
    let f = and_parts (not (is 0x25 d) || begin_escape (s ++ c ∷ t)) (are_escapes_whole (s ++ c ∷ t)) e in
    and_from _ _ (or_more (not (is 0x25 d)) (begin_escape (s ++ c ∷ t)) (begin_escape s) (begin_cut s c t h) f.0) (escapes_front s c t h f.1)

pub escapes_behind : (s t : List ℕ) → are_escapes_whole (s ++ t) ≡ true → are_escapes_whole t ≡ true
escapes_behind [] t e = e
escapes_behind (c ∷ s) t e =
    let f = and_parts (not (is 0x25 c) || begin_escape (s ++ t)) (are_escapes_whole (s ++ t)) e in escapes_behind s t f.1

-- ---- texts

abbrev pub is_char : ℕ → Bool
is_char c = nat_le c 0x10FFFF

-- whole escapes, and no character that passes
pub record IsText (p : ℕ → Bool) (s : List ℕ) : Type 0 where
  pub escapes : are_escapes_whole s ≡ true
  pub chars : list_all is_char s ≡ true
  pub others : none p s ≡ true

module _ (p : ℕ → Bool) where
  pub no_text : IsText p []
  no_text = record { escapes = refl; chars = refl; others = refl }

  pub texts_join : (s t : List ℕ) → IsText p s → IsText p t → IsText p (s ++ t)
  texts_join s t a b =
      record {
        escapes = escapes_join s t a.escapes b.escapes;
        chars = all_join is_char s t a.chars b.chars;
        others = all_join (λ c. not (p c)) s t a.others b.others;
      }

  pub text_front : (s : List ℕ) (c : ℕ) (t : List ℕ) → is_hex c ≡ false → IsText p (s ++ c ∷ t) → IsText p s
  text_front s c t h a =
      record {
        escapes = escapes_front s c t h a.escapes;
        chars = all_front is_char s (c ∷ t) a.chars;
        others = all_front (λ c. not (p c)) s (c ∷ t) a.others;
      }

  pub text_behind : (s t : List ℕ) → IsText p (s ++ t) → IsText p t
  text_behind s t a =
      record {
        escapes = escapes_behind s t a.escapes;
        chars = all_behind is_char s t a.chars;
        others = all_behind (λ c. not (p c)) s t a.others;
      }

  -- one character that is no escape
  pub text_of_char : (c : ℕ) → is 0x25 c ≡ false → is_char c ≡ true → p c ≡ false → IsText p (c ∷ [])
  text_of_char c e l h =
      record {
        escapes = and_from _ _ (or_left _ _ (not_from_false _ e)) refl;
        chars = and_from _ _ l refl;
        others = and_from _ _ (not_from_false _ h) refl;
      }

module _ (p q : ℕ → Bool) (s : List ℕ) where
  pub text_or : IsText p s → none q s ≡ true → IsText (λ c. q c || p c) s
  text_or a h = record { escapes = a.escapes; chars = a.chars; others = none_or q p s h a.others }

  pub text_less : IsText (λ c. q c || p c) s → IsText p s
  text_less a = record { escapes = a.escapes; chars = a.chars; others = none_right q p s a.others }

  pub text_without : IsText (λ c. q c || p c) s → none q s ≡ true
  text_without a = none_left q p s a.others
