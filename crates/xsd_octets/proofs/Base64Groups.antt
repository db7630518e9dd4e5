-- Groups of base64Binary, character by character.
use Rattle.std.proofs.Common.{◌≡◌, inl, inr, ℕ, List, [], ◌∷◌, codes, Bool, true, false, ◌&&◌, ◌||◌, ◌==◌, cond, Some, None, refl, sym, ap, ◌∙◌, true≢false}
use Rattle.std.specs.List.{list_any, list_all}
use Rattle.std.proofs.Math.Bool.{or-false}
use Rattle.std.proofs.lemmas.Bool.{or_cases, and_parts, and_right, eqb-true, false≢true}
use Rattle.rng_model.specs.xsd.primitives.Octets.{is_b64, is_b16, is_b04, is_padding, is_full, is_last, are_base64_groups}
use Rattle.xsd_octets.specs.declared.base64_binary.Place.TheVariants.{First, Padding, End}
use Rattle.xsd_octets.specs.views.Places.{are_groups_from, passes_at}

-- ---- which characters

among_passes : (p : ℕ → Bool) (c : ℕ) (ds : List ℕ) → list_all p ds ≡ true → list_any (λ d. c == d) ds ≡ true → p c ≡ true
among_passes p c [] all e = absurd (false≢true e)
among_passes p c (d ∷ ds) all e =
    let both = and_parts (p d) (list_all p ds) all in
    elim (or_cases (c == d) (list_any (λ d. c == d) ds) e) [ inl same ↦ ap p (eqb-true c d same) ∙ both.0 | inr other ↦ among_passes p c ds both.1 other ]

not_otherwise : (a b : Bool) → (b ≡ true → a ≡ true) → a ≡ false → b ≡ false
not_otherwise a true h e = absurd (true≢false (sym (h refl) ∙ e))
not_otherwise a false h e = refl

no_b16 : (c : ℕ) → is_b64 c ≡ false → is_b16 c ≡ false
no_b16 c = not_otherwise (is_b64 c) (is_b16 c) (among_passes is_b64 c (codes "AEIMQUYcgkosw048") refl)

no_b04 : (c : ℕ) → is_b64 c ≡ false → is_b04 c ≡ false
no_b04 c = not_otherwise (is_b64 c) (is_b04 c) (among_passes is_b64 c (codes "AQgw") refl)

no_padding : (c : ℕ) → is_b64 c ≡ true → is_padding c ≡ false
no_padding c e = by_test (is_padding c) refl
  where
    by_test : (b : Bool) → is_padding c ≡ b → b ≡ false
    by_test true p = absurd (true≢false (sym e ∙ ap is_b64 (eqb-true c 0x3D p)))
    by_test false p = refl

-- ---- a group

cond_false : (b : Bool) → cond b false false ≡ false
cond_false true = refl
cond_false false = refl

-- no character stands behind the padding
behind_padding : (m : Bool) (d e : ℕ) (rest : List ℕ) → passes_at (λ next. are_groups_from next (e ∷ rest)) (cond (m && is_padding d) (Some End) None) ≡ false
behind_padding m d e rest = by_test (m && is_padding d) refl
  where
    by_test : (u : Bool) → (m && is_padding d) ≡ u → passes_at (λ next. are_groups_from next (e ∷ rest)) (cond (m && is_padding d) (Some End) None) ≡ false
    by_test true p = rw p refl
    by_test false p = rw p refl

behind_two_paddings : (m : Bool) (c d e : ℕ) (rest : List ℕ)
    → passes_at (λ next. are_groups_from next (d ∷ e ∷ rest)) (cond (m && is_padding c) (Some Padding) None) ≡ false
behind_two_paddings m c d e rest = by_tests (m && is_padding c) (is_padding d) refl refl
  where
    by_tests : (u v : Bool) → (m && is_padding c) ≡ u → is_padding d ≡ v
        → passes_at (λ next. are_groups_from next (d ∷ e ∷ rest)) (cond (m && is_padding c) (Some Padding) None) ≡ false
    by_tests false v p q = rw p refl
    by_tests true true p q = rw (p, q) refl
    by_tests true false p q = rw (p, q) refl

group_and : (a b c d e : ℕ) (rest : List ℕ) (w x y z : Bool) → is_b64 a ≡ w → is_b64 b ≡ x → is_b64 c ≡ y → is_b64 d ≡ z
    → are_groups_from First (a ∷ b ∷ c ∷ d ∷ e ∷ rest) ≡ (is_full a b c d && are_groups_from First (e ∷ rest))
group_and a b c d e rest false x y z p q r s = rw p refl
group_and a b c d e rest true false y z p q r s = rw (p, q) refl
group_and a b c d e rest true true false z p q r s = rw (p, q, r) (behind_two_paddings (is_b04 b) c d e rest)
group_and a b c d e rest true true true false p q r s = rw (p, q, r, s) (behind_padding (is_b16 c) d e rest)
group_and a b c d e rest true true true true p q r s = rw (p, q, r, s) refl

two_more : (c d : ℕ) (m u v : Bool) → (m && is_padding c) ≡ u → is_padding d ≡ v
    → passes_at (λ next. are_groups_from next (d ∷ [])) (cond (m && is_padding c) (Some Padding) None) ≡ is_padding d && (m && is_padding c)
two_more c d m true true p q = rw (p, q) refl
two_more c d m true false p q = rw (p, q) refl
two_more c d m false true p q = rw (p, q) refl
two_more c d m false false p q = rw (p, q) refl

one_more : (d : ℕ) (m u v : Bool) → m ≡ u → is_padding d ≡ v
    → passes_at (λ next. are_groups_from next []) (cond (m && is_padding d) (Some End) None) ≡ is_padding d && m
one_more d m true true p q = rw (p, q) refl
one_more d m true false p q = rw (p, q) refl
one_more d m false true p q = rw (p, q) refl
one_more d m false false p q = rw (p, q) refl

last_group : (a b c d : ℕ) (w x y z : Bool) → is_b64 a ≡ w → is_b64 b ≡ x → is_b64 c ≡ y → is_b64 d ≡ z
    → are_groups_from First (a ∷ b ∷ c ∷ d ∷ []) ≡ (is_full a b c d || is_last a b c d)
last_group a b c d false x y z p q r s = rw p refl
last_group a b c d true false y z p q r s = rw (p, q, no_b04 b q) (sym (and_right (is_padding d) false refl))
last_group a b c d true true false z p q r s =
    rw (p, q, r, no_b16 c r) (two_more c d (is_b04 b) (is_b04 b && is_padding c) (is_padding d) refl refl)
last_group a b c d true true true true p q r s = rw (p, q, r, s) refl
last_group a b c d true true true false p q r s =
    let none : (is_b04 b && is_padding c) ≡ false = and_right (is_b04 b) (is_padding c) (no_padding c r) in
    let only : (is_b16 c || (is_b04 b && is_padding c)) ≡ is_b16 c = ap (λ t. is_b16 c || t) none ∙ or-false (is_b16 c) in
    rw (p, q, r, s) (one_more d (is_b16 c) (is_b16 c) (is_padding d) refl refl ∙ ap (λ t. is_padding d && t) (sym only))

-- ---- too few characters

after_one : (a : ℕ) (w : Bool) → is_b64 a ≡ w → are_groups_from First (a ∷ []) ≡ false
after_one a true p = rw p refl
after_one a false p = rw p refl

after_two : (a b : ℕ) (w x : Bool) → is_b64 a ≡ w → is_b64 b ≡ x → are_groups_from First (a ∷ b ∷ []) ≡ false
after_two a b false x p q = rw p refl
after_two a b true true p q = rw (p, q) refl
after_two a b true false p q = rw (p, q) refl

after_three : (a b c : ℕ) (w x y u : Bool) → is_b64 a ≡ w → is_b64 b ≡ x → is_b64 c ≡ y → (is_b04 b && is_padding c) ≡ u
    → are_groups_from First (a ∷ b ∷ c ∷ []) ≡ false
after_three a b c false x y u p q r s = rw p refl
after_three a b c true false y u p q r s = rw (p, q) refl
after_three a b c true true true u p q r s = rw (p, q, r) refl
after_three a b c true true false true p q r s = rw (p, q, r) (rw s refl)
after_three a b c true true false false p q r s = rw (p, q, r) (rw s refl)

-- the reader takes the groups, from the first place on
pub groups_are : (cs : List ℕ) → are_groups_from First cs ≡ are_base64_groups cs
groups_are [] = refl
groups_are (a ∷ []) = after_one a (is_b64 a) refl
groups_are (a ∷ b ∷ []) = after_two a b (is_b64 a) (is_b64 b) refl refl
groups_are (a ∷ b ∷ c ∷ []) = after_three a b c (is_b64 a) (is_b64 b) (is_b64 c) (is_b04 b && is_padding c) refl refl refl refl
groups_are (a ∷ b ∷ c ∷ d ∷ []) = last_group a b c d (is_b64 a) (is_b64 b) (is_b64 c) (is_b64 d) refl refl refl refl
groups_are (a ∷ b ∷ c ∷ d ∷ e ∷ rest) =
    group_and a b c d e rest (is_b64 a) (is_b64 b) (is_b64 c) (is_b64 d) refl refl refl refl
    ∙ ap (λ t. is_full a b c d && t) (groups_are (e ∷ rest))
