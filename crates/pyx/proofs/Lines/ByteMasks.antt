-- Masks of the bytes that are one byte.
use Rattle.std.proofs.Common.{◌≡◌, ◌↔◌, ◌+◌, ◌-◌, ◌<◌, ◌≤◌, ◌%◌, ◌^◌, ◌∙◌, ap, arith, refl, rules, sym, ⊎_elim, w8}
use Rattle.std.proofs.Common.{ℕ, List, Bool, true, false, None, cond, eqb, length, get_or, map, replicate, take}
use Rattle.std.specs.Int.{bit_at}
use Rattle.std.specs.Simd.Lanes.{zip2, mask_l, top}
use Rattle.std.proofs.lemmas.Simd.{length-zip2, get_or-zip2, get_or-replicate, bit_mask_l, tops_compared, mask_l-mod}
use Rattle.std.proofs.lemmas.Bool.{cases_lt, eqb-true}
use Rattle.std.proofs.lemmas.List.{get_or-take, length-take}
use Rattle.memchr.specs.Find.{Nowhere, Passes, is_byte}
use Rattle.pyx.specs.plain.Marks.{IsMask}
use Rattle.pyx.specs.plain.Cuts.{at_byte}
use Rattle.pyx.proofs.Lines.TextCuts.{cut_nowhere}
use Rattle.pyx.proofs.Lines.NamesInLines.{differs}

same_tells : (x b : ℕ) (s : Bool) → eqb x b ≡ s → (cond {A = ℕ} s 1 0 ≡ 1) ↔ (x ≡ b)
same_tells x b true e = (λ h. eqb-true x b e, λ h. refl)
same_tells x b false e = (λ h. absurd (omega arith), λ h. absurd (differs x b e h))

-- `to_bitmask` of `simd_eq` with one byte
pub mask_is : (v : List ℕ) (b : ℕ) → length v ≡ 16
    → mask_l (map (top 7) (zip2 (λ x y. cond (eqb x y) 255 0) v (replicate 16 b))) % 2 ^ 64 ≡ mask_l (zip2 eqb v (replicate 16 b))
mask_is v b p =
    let long : length (zip2 eqb v (replicate 16 b)) ≡ 16 = length-zip2 eqb v (replicate 16 b) p ∙ p in
    ap (λ m. mask_l m % 2 ^ 64) (tops_compared w8 eqb v (replicate 16 b)) ∙ mask_l-mod (zip2 eqb v (replicate 16 b)) 64 (omega (arith, long))

-- one of its bits
pub mask_tells : (v : List ℕ) (b k : ℕ) → length v ≡ 16 → k < 16 → (bit_at (mask_l (zip2 eqb v (replicate 16 b))) k ≡ 1) ↔ (get_or v k 0 ≡ b)
mask_tells v b k p l =
    let lane : get_or (zip2 eqb v (replicate 16 b)) k false ≡ eqb (get_or v k 0) b =
    get_or-zip2 eqb v (replicate 16 b) k 0 0 false (omega (arith, p)) l ∙ ap (eqb (get_or v k 0)) (get_or-replicate 16 k b 0 l) in
    let bit = bit_mask_l (zip2 eqb v (replicate 16 b)) k ∙ ap (λ s. cond {A = ℕ} s 1 0) lane in
    let t = same_tells (get_or v k 0) b _ refl in
    (λ h. t.0 (sym bit ∙ h), λ h. bit ∙ t.1 h)

-- none of the bytes is below the first n places of a mask, if it is clear there and none is before them
pub none_below : (b : ℕ) (bytes : List ℕ) (from mask n : ℕ) → n ≤ 16 → IsMask b bytes from mask → ((k : ℕ) → k < n → bit_at mask k ≡ 0)
    → Nowhere (Passes (is_byte b) bytes) 0 from → Nowhere (Passes (is_byte b) bytes) 0 (from + n)
none_below b bytes from mask n few is clear before = λ k low high here.
    ⊎_elim (λ l. before k low l here) (λ (ge : from ≤ k).
    let place : from + (k - from) ≡ k = omega (arith, ge) in
    let inside : k - from < n = omega (arith, ge, high) in
    let set = (is (k - from) (omega (arith, inside, few))).1 (ap (λ x. get_or bytes x 0) place ∙ eqb-true (get_or bytes k 0) b here) in
    omega (arith, clear (k - from) inside, set)) (cases_lt k from)

-- the byte at the lowest bit that is set
pub first_there : (b : ℕ) (bytes : List ℕ) (from mask at : ℕ) → at < 16 → IsMask b bytes from mask → (at < 64 → bit_at mask at ≡ 1)
    → Passes (is_byte b) bytes (from + at)
first_there b bytes from mask at small is set = same_byte (get_or bytes (from + at) 0) ((is at small).0 (set (omega (arith, small)))) where
  same_byte : (x : ℕ) → x ≡ b → eqb x b ≡ true
  same_byte x e = rw e (search rules)

-- none of the bytes is in front of a place
pub none_in_front : (b : ℕ) (bytes text front : List ℕ) (at : ℕ) → bytes ≡ text → Nowhere (Passes (is_byte b) bytes) 0 at → front ≡ take at text
    → at_byte b front ≡ None
none_in_front b bytes text front at same none e = ap (at_byte b) (e ∙ ap (take at) (sym same))
    ∙ sym (cut_nowhere b (take at bytes) (take at bytes) refl (λ k low high here.
    let inside : k < at = omega (arith, high, length-take at bytes) in
    none k low inside (sym (ap (λ x. eqb x b) (get_or-take at bytes k 0 inside)) ∙ here)))
