-- Tests that fail.
use Rattle.std.proofs.Common.{◌≡◌, true, false}

pub false_true : false ≡ true → ⊥
false_true e = cc
