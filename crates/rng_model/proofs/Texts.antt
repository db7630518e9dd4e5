-- Bytes of texts, compared by a test.
use Rattle.std.proofs.Common.{◌≡◌, ◌≢◌, ℕ, List, [], ◌∷◌, length, true, false, ◌==◌, refl, rules}
use Rattle.std.specs.Str.{bytes_eq}
use Rattle.std.proofs.lemmas.Bool.{false_from_ne_true}
use Rattle.std.proofs.lemmas.Slice.Eq.{bytes_eq-Decides}

pub bytes_same : (v w : List ℕ) → bytes_eq v w ≡ true → v ≡ w
bytes_same v w = (bytes_eq-Decides v w).0

pub bytes_itself : (v : List ℕ) → bytes_eq v v ≡ true
bytes_itself v = (bytes_eq-Decides v v).1 refl

pub bytes_differ : (v w : List ℕ) → v ≢ w → bytes_eq v w ≡ false
bytes_differ v w n = false_from_ne_true (bytes_eq v w) (λ e. n (bytes_same v w e))

pub no_bytes : (v : List ℕ) → (length v == 0) ≡ true → v ≡ []
no_bytes [] e = refl
no_bytes (b ∷ v) e = search rules
