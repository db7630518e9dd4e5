-- Numbers read from the bytes of a text, past the blanks in front.
use Rattle.std.proofs.Common.{◌≡◌, ℕ, List, [], ◌∷◌, ◌++◌, length, Bool, true, false, not, cond, ◌&&◌, ◌==◌, Some, None, refl, sym, ap, ap₂, ◌∙◌, subst, rules, tests, arith}
use Rattle.std.specs.List.{slice_split}
use Rattle.std.specs.Str.Parse.{starts_with_minus, without_leading_sign}
use Rattle.rng_model.specs.datatypes.Texts.{is_blank_byte, is_blank, collapse}
use Rattle.rng_model.specs.xsd.Numbers.{are_digits}
use Rattle.rng_types.specs.plain.Runs.{from_run}
use Rattle.rng_types.proofs.CollapsedBytes.{unsigned-run}
use Rattle.rng_model.specs.xsd.primitives.Decimals.{is_point, decimal_of, decimal_parts, significant}
use Rattle.xsd_decimals.specs.plain.Numbers.{past_zeros, IsWritten, number_of}
use Rattle.xsd_decimals.specs.plain.Parts.{WritesParts, WritesNone}
use Rattle.xsd_decimals.proofs.Signs.{number_is, is_written}

-- a minus is of the run that it begins
blanks_minus : (c : Bool) (s : List ℕ) → starts_with_minus (cond c [] (32 ∷ s)) ≡ false
blanks_minus true s = refl
blanks_minus false s = refl

minus-run : (s : List ℕ) → starts_with_minus (from_run s) ≡ starts_with_minus s
minus-run [] = refl
minus-run (b ∷ s) = by_byte (is_blank_byte b) refl
  where
    by_byte : (c : Bool) → is_blank_byte b ≡ c → starts_with_minus (from_run (b ∷ s)) ≡ starts_with_minus (b ∷ s)
    by_byte true e =
        let other : (b == 45) ≡ false = search (rules, tests, arith) in
        rw e (blanks_minus (is_blank s) (collapse s) ∙ sym other)
    by_byte false e = rw e refl

-- the number of a run, by the parts behind its sign
by_parts : (s u : List ℕ) → u ≡ without_leading_sign s → decimal_of (from_run s) ≡ decimal_parts (starts_with_minus s) (slice_split is_point (from_run u))
unfolding decimal_of
by_parts s u unsigned =
    ap (λ m. decimal_parts m (slice_split is_point (without_leading_sign (from_run s)))) (minus-run s)
    ∙ ap (λ t. decimal_parts (starts_with_minus s) (slice_split is_point t)) (sym (ap from_run unsigned ∙ unsigned-run s))

-- what is read: the digits behind the sign, without the zeros at their ends
module _ (s u whole fraction w f : List ℕ) (minus : Bool) where
  pub number_read : (negative : Bool) (w2 f2 : List ℕ) → u ≡ without_leading_sign s → WritesParts (from_run u) whole fraction → minus ≡ starts_with_minus s
      → w ≡ past_zeros whole → f ≡ significant fraction → negative ≡ (minus && not (length (w ++ f) == 0)) → w2 ≡ w → f2 ≡ f
      → Some (number_of negative w2 f2) ≡ decimal_of (from_run s)
  number_read negative w2 f2 unsigned parts minus_is w_is f_is sign same_w same_f =
      ap (λ n. Some (number_of n w2 f2)) (sign ∙ ap₂ (λ x y. minus && not (length (x ++ y) == 0)) w_is f_is)
      ∙ ap₂ (λ x y. Some (number_of (minus && not (length (past_zeros whole ++ significant fraction) == 0)) x y)) (same_w ∙ w_is) (same_f ∙ f_is)
      ∙ ap Some (number_is minus whole fraction) ∙ sym (parts.is minus) ∙ ap (λ m. decimal_parts m (slice_split is_point (from_run u))) minus_is
      ∙ sym (by_parts s u unsigned)

pub number_written : (whole fraction w f : List ℕ) (minus negative : Bool) (w2 f2 : List ℕ) → are_digits (whole ++ fraction) ≡ true
    → w ≡ past_zeros whole → f ≡ significant fraction → negative ≡ (minus && not (length (w ++ f) == 0)) → w2 ≡ w → f2 ≡ f → IsWritten negative w2 f2
number_written whole fraction w f minus negative w2 f2 digits w_is f_is sign same_w same_f =
    subst (λ n. IsWritten n w2 f2) (sym (sign ∙ ap₂ (λ x y. minus && not (length (x ++ y) == 0)) w_is f_is))
    (subst (λ y. IsWritten (minus && not (length (past_zeros whole ++ significant fraction) == 0)) w2 y) (sym (same_f ∙ f_is))
    (subst (λ x. IsWritten (minus && not (length (past_zeros whole ++ significant fraction) == 0)) x (significant fraction)) (sym (same_w ∙ w_is))
    (is_written minus whole fraction digits)))

pub number_none : (s u : List ℕ) → u ≡ without_leading_sign s → WritesNone (from_run u) → None ≡ decimal_of (from_run s)
number_none s u unsigned none = sym (none (starts_with_minus s)) ∙ sym (by_parts s u unsigned)
