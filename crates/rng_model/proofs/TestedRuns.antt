-- The longest beginning of a text whose bytes pass a test that only ASCII bytes pass.
use Rattle.std.proofs.Common.{◌≡◌, ℕ, zero, suc, ◌+◌, ◌<◌, ◌≤◌, List, [], ◌∷◌, Bool, true, false, cond, take, length, refl, arith, subst, one-add, add-one}
use Rattle.std.specs.List.{list_all, prefix_len}
use Rattle.std.specs.Str.{IsUtf8, IsAscii, IsCharBoundary}
use Rattle.std.proofs.lemmas.Bool.{and_parts}
use Rattle.std.proofs.lemmas.List.Sums.{prefix_len-le-length, prefix_len_passes}
use Rattle.std.proofs.lemmas.Str.{IsCharBoundary-start, IsCharBoundary-after_ascii}
use Rattle.std.proofs.lemmas.Str.Ascii.{IsAscii-nil, IsAscii-cons}

-- only ASCII bytes pass
abbrev pub IsForAscii : (ℕ → Bool) → Type 0
IsForAscii test = (b : ℕ) → test b ≡ true → b < 128

-- the text may be cut behind it
pub run_boundary : (test : ℕ → Bool) (s : List ℕ) (n : ℕ) → IsForAscii test → IsUtf8 s → n ≡ prefix_len test s → IsCharBoundary s n
run_boundary test s zero ascii utf8 e = IsCharBoundary-start s utf8
run_boundary test s (suc k) ascii utf8 e =
    let within : k + 1 ≤ length s = omega (arith, prefix_len-le-length test s) in
    let passes = prefix_len_passes test s k 0 (omega arith) in
    subst (IsCharBoundary s) (add-one k) (IsCharBoundary-after_ascii s k utf8 (omega arith) (ascii _ passes))

first_passes : (test : ℕ → Bool) (b : ℕ) (bs : List ℕ) (x : Bool) → test b ≡ x → list_all test (take (prefix_len test bs) bs) ≡ true
    → list_all test (take (cond x (1 + prefix_len test bs) 0) (b ∷ bs)) ≡ true
first_passes test b bs true e all = rw (one-add (prefix_len test bs), e) all
first_passes test b bs false e all = refl

-- all of its bytes pass
pub run_passes : (test : ℕ → Bool) (bs : List ℕ) → list_all test (take (prefix_len test bs) bs) ≡ true
run_passes test [] = refl
run_passes test (b ∷ bs) = first_passes test b bs (test b) refl (run_passes test bs)

-- bytes that pass are ASCII
pub passing_ascii : (test : ℕ → Bool) (bs : List ℕ) → IsForAscii test → list_all test bs ≡ true → IsAscii bs
passing_ascii test [] ascii e = IsAscii-nil
passing_ascii test (b ∷ bs) ascii e = let both = and_parts _ _ e in IsAscii-cons b bs (ascii b both.0) (passing_ascii test bs ascii both.1)
