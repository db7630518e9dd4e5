use Rattle.std.proofs.Common.{◌≡◌, ℕ, ◌+◌, ◌-◌, List, Option, length, take, drop, arith, rules}
use Rattle.std.proofs.Math.Seq.{take-add}
use Rattle.std.proofs.lemmas.List.{take_all, length-drop}
use Rattle.std.specs.Io.KnownBytes.{Appends}
use Rattle.std.proofs.KnownBytes.{Appends-trans}
use Rattle.rng_model.proofs.device_writing.write_whole.Goals as goal

-- `&xs[i..]` is what is left
take-rest : (xs : List ℕ) (i : ℕ) → take (length xs - i) (drop i xs) ≡ drop i xs
take-rest xs i = take_all _ _ (omega (arith, length-drop i xs))

-- a front, followed by a front of the rest, is a longer front
Appends-more : (a b c : Option (List ℕ)) (xs : List ℕ) (i n : ℕ) → Appends a b (take i xs) → Appends b c (take n (take (length xs - i) (drop i xs))) →
    Appends a c (take (i + n) xs)
Appends-more a b c xs i n p q = rw take-add (Appends-trans a b c _ _ p (rw take-rest at q))

pub pieces-preserved : goal.pieces-preserved
pieces-preserved g c = record {
  within = search rules;
  written = Appends-more _ _ _ _ _ _ c.pieces.invariant.written c.in_ok-at.ensures.bytes;
  calm = search rules;
  taken = search rules;
}
