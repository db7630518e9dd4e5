-- Two lists that are appended, one after the other.
use Rattle.std.proofs.Common.{◌≡◌, ◌∙◌, List, ◌++◌, ap, append_assoc}

pub both_appended : {E : Type 0} (all included kept overriding first both : List E) → included ≡ kept → first ≡ all ++ included → both ≡ first ++ overriding
    → both ≡ all ++ (kept ++ overriding)
both_appended all included kept overriding first both is one two =
    two ∙ ap (λ xs. xs ++ overriding) (one ∙ ap (λ xs. all ++ xs) is) ∙ append_assoc all kept overriding
