-- The blanks that a text ends with, read from its end.
use Rattle.std.proofs.Common.{◌≡◌, ℕ, List, [], ◌∷◌, ◌++◌, true, false, ◌&&◌, cond, refl, ap, ap₂, ◌∙◌}
use Rattle.std.proofs.lemmas.List.Folds.{list_all-append}
use Rattle.std.proofs.lemmas.Bool.{and_left, and_right}
use Rattle.std.proofs.Math.Bool.{and-true}
use Rattle.rng_model.specs.datatypes.Texts.{is_blank_byte, is_blank}
use Rattle.xsd_uris.specs.plain.TrimmedTexts.{past_end}

-- a text of blanks
pub past_end-blank : (s : List ℕ) → is_blank s ≡ true → past_end s ≡ []
past_end-blank [] e = refl
past_end-blank (b ∷ s) e = rw e refl

-- blanks behind a text change nothing
pub past_end-blanks : (s blanks : List ℕ) → is_blank blanks ≡ true → past_end (s ++ blanks) ≡ past_end s
past_end-blanks [] blanks e = past_end-blank blanks e
past_end-blanks (b ∷ s) blanks e =
    let same : is_blank ((b ∷ s) ++ blanks) ≡ is_blank (b ∷ s) =
    list_all-append is_blank_byte (b ∷ s) blanks ∙ ap (λ x. is_blank (b ∷ s) && x) e ∙ and-true (is_blank (b ∷ s)) in
    ap₂ (λ x t. cond x [] (b ∷ t)) same (past_end-blanks s blanks e)

-- a text that ends with another byte stays as it is
pub past_end-last : (s : List ℕ) (b : ℕ) → is_blank_byte b ≡ false → past_end (s ++ b ∷ []) ≡ s ++ b ∷ []
past_end-last [] b e = rw e refl
past_end-last (c ∷ s) b e =
    let some : is_blank ((c ∷ s) ++ b ∷ []) ≡ false =
    list_all-append is_blank_byte (c ∷ s) (b ∷ []) ∙ and_right (is_blank (c ∷ s)) (is_blank (b ∷ [])) (and_left (is_blank_byte b) true e) in
    ap₂ (λ x t. cond x [] (c ∷ t)) some (past_end-last s b e)
