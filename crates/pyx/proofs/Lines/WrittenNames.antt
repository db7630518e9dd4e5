-- Names are written in the same way if their bytes are the same.
use Rattle.std.proofs.Common.{◌≡◌, ℕ, Bool, true, false, cond, List, [], ◌∷◌, ◌++◌, Option, Some, None, refl, sym, ap, ◌∙◌, ◌+◌, length, eqb}
use Rattle.std.proofs.Common.{arith}
use Rattle.std.specs.Str.{bytes_eq}
use Rattle.std.proofs.lemmas.Bool.{eqb-true, and_parts}
use Rattle.std.proofs.lemmas.List.{length-append}
use Rattle.rng_model.proofs.Texts.{bytes_same, bytes_itself}
use Rattle.rng_model.specs.documents.PyxHeld.{prefix_length, name_length}
use Rattle.rng_model.specs.documents.PyxLines.{QName}
use Rattle.pyx.specs.plain.Cuts.{at_byte, at_front}
use Rattle.pyx.specs.plain.WrittenNames.{written_of, cut_name}
use Rattle.pyx.specs.plain.Declarations.{same_prefix, same_written}

-- the bytes of a name in a line
abbrev pub bytes_of_prefix : Option (List ℕ) → List ℕ → List ℕ
bytes_of_prefix None local = local
bytes_of_prefix (Some p) local = p ++ 58 ∷ local

abbrev pub written_bytes : QName → List ℕ
written_bytes name = bytes_of_prefix name.prefix name.local

-- the part before the first of a byte, the byte, and the part after it are the whole
abbrev pub joins : ℕ → Option (List ℕ × List ℕ) → List ℕ → Type 0
joins k None bytes = Unit {0}
joins k (Some p) bytes = p.0 ++ k ∷ p.1 ≡ bytes

pub at_joins : (k : ℕ) (bytes : List ℕ) → joins k (at_byte k bytes) bytes
unfolding at_byte
at_joins k [] = tt
at_joins k (c ∷ cs) = go (eqb c k) (at_byte k cs) refl (at_joins k cs) where
  go : (b : Bool) (o : Option (List ℕ × List ℕ)) → eqb c k ≡ b → joins k o cs → joins k (cond b (Some ([], cs)) (at_front c o)) (c ∷ cs)
  go true o e j = ap (λ x. x ∷ cs) (sym (eqb-true c k e))
  go false None e j = tt
  go false (Some p) e j = ap (λ x. c ∷ x) j

pub written_back : (bytes : List ℕ) → written_bytes (written_of bytes) ≡ bytes
unfolding written_of
written_back bytes = go (at_byte 58 bytes) (at_joins 58 bytes) where
  go : (o : Option (List ℕ × List ℕ)) → joins 58 o bytes → written_bytes (cut_name o bytes) ≡ bytes
  go None j = refl
  go (Some p) j = j

pub prefix_same : (p q : Option (List ℕ)) → same_prefix p q ≡ true → p ≡ q
prefix_same None None e = refl
prefix_same None (Some q) e = absurd cc
prefix_same (Some p) None e = absurd cc
prefix_same (Some p) (Some q) e = ap Some (bytes_same p q e)

pub prefix_itself : (p : Option (List ℕ)) → same_prefix p p ≡ true
prefix_itself None = refl
prefix_itself (Some p) = bytes_itself p

pub written_same : (a b : QName) → same_written a b ≡ true → a ≡ b
written_same a b e = let p = and_parts (same_prefix a.prefix b.prefix) (bytes_eq a.local b.local) e in
    join a.prefix b.prefix a.local b.local (prefix_same a.prefix b.prefix p.0) (bytes_same a.local b.local p.1) where
      join : (p q : Option (List ℕ)) (x y : List ℕ) → p ≡ q → x ≡ y → ◌≡◌ {A = QName} (record { prefix = p; local = x })
          (record { prefix = q; local = y })
      join p q x y e f = rw (e, f) refl

pub written_itself : (a : QName) → same_written a a ≡ true
written_itself a = rw (prefix_itself a.prefix, bytes_itself a.local) refl

pub written_alike : (x y : List ℕ) → same_written (written_of x) (written_of y) ≡ bytes_eq x y
written_alike x y = go (bytes_eq x y) (same_written (written_of x) (written_of y)) refl refl where
  go : (a b : Bool) → bytes_eq x y ≡ a → same_written (written_of x) (written_of y) ≡ b → b ≡ a
  go true true e f = refl
  go false false e f = refl
  go true false e f = sym f ∙ ap (λ z. same_written (written_of x) (written_of z)) (sym (bytes_same x y e)) ∙ written_itself (written_of x)
  go false true e f = sym (sym e ∙ ap (λ z. bytes_eq x z) (sym same) ∙ bytes_itself x) where
    same : x ≡ y
    same = sym (written_back x) ∙ ap written_bytes (written_same (written_of x) (written_of y) f) ∙ written_back y

-- the number of bytes in a name as it is written
prefix_size : (p : Option (List ℕ)) (local : List ℕ) → length (bytes_of_prefix p local) ≡ prefix_length p + length local
prefix_size None local = omega arith
prefix_size (Some p) local = omega (arith, length-append p (58 ∷ local))

pub written_size : (bytes : List ℕ) → length bytes ≡ name_length (written_of bytes)
written_size bytes = ap length (sym (written_back bytes)) ∙ prefix_size (written_of bytes).prefix (written_of bytes).local
