-- A test of four months, one by one.
use Rattle.std.proofs.Common.{◌≡◌, Bool, true, false, ◌&&◌, refl}

pub and_then : (v a b : Bool) → a ≡ true → v ≡ b → v ≡ (a && b)
and_then v a b e f = rw (e, f) refl

pub and_else : (v a b : Bool) → a ≡ false → v ≡ false → v ≡ (a && b)
and_else v a b e f = rw (e, f) refl

pub in_order : (a b c d : Bool) → (((a && b) && c) && d) ≡ (a && (b && (c && (d && true))))
in_order true true true true = refl
in_order true true true false = refl
in_order true true false d = refl
in_order true false c d = refl
in_order false b c d = refl
