-- Escapes by their first byte, and the bytes of a line as a text.
use Rattle.std.proofs.Common.{◌≡◌, ℕ, List, [], ◌∷◌, Bool, true, false, cond, eqb, Option, Some, None, Err, refl, ap, sym}
use Rattle.std.specs.Str.{IsUtf8, is_utf8}
use Rattle.std.proofs.lemmas.Str.{is_utf8-from_IsUtf8, IsUtf8-from_is_utf8}
use Rattle.pyx.specs.plain.Cuts.{behind, either_way}
use Rattle.pyx.specs.plain.Escapes.{escape_of}
use Rattle.pyx.specs.plain.LineReader.{bytes_of, characters_of}

-- an escape, by its first byte
abbrev Escape : Type 0
Escape = Option (ℕ × List ℕ)

escape_choice : (x y z : Bool) (a b c : ℕ × List ℕ) (cs : List ℕ) (f g h : List ℕ → ℕ × List ℕ) → f cs ≡ a → g cs ≡ b → h cs ≡ c →
    cond {A = Escape} x (Some a) (cond y (Some b) (cond z (Some c) None)) ≡ either_way (cond x (Some cs) None)
    (either_way (cond y (Some cs) None) (either_way (cond z (Some cs) None) None (λ rest. Some (h rest))) (λ rest. Some (g rest))) (λ rest. Some (f rest))
escape_choice true y z a b c cs f g h p q r = ap Some (sym p)
escape_choice false true z a b c cs f g h p q r = ap Some (sym q)
escape_choice false false true a b c cs f g h p q r = ap Some (sym r)
escape_choice false false false a b c cs f g h p q r = refl

pub escape_by_front : (bs : List ℕ) → ◌≡◌ {A = Escape} (escape_of bs) (either_way (behind 110 bs)
    (either_way (behind 116 bs) (either_way (behind 92 bs) None (λ rest. Some (92, rest))) (λ rest. Some (9, rest))) (λ rest. Some (10, rest)))
escape_by_front [] = refl
escape_by_front (c ∷ cs) = escape_choice (eqb c 110) (eqb c 116) (eqb c 92) (10, cs) (9, cs) (92, cs) cs (λ rest. (10, rest)) (λ rest. (9, rest))
    (λ rest. (92, rest)) refl refl refl

pub read_when_utf8 : (bs : List ℕ) → IsUtf8 bs → bytes_of bs ≡ characters_of bs
unfolding bytes_of
read_when_utf8 bs u = rw (is_utf8-from_IsUtf8 bs u) refl

pub read_when_not : (bs : List ℕ) → ¬ (IsUtf8 bs) → bytes_of bs ≡ Err 2
unfolding bytes_of
read_when_not bs n = go (is_utf8 bs) refl where
  go : (b : Bool) → is_utf8 bs ≡ b → cond b (characters_of bs) (Err 2) ≡ Err 2
  go true e = absurd (n (IsUtf8-from_is_utf8 bs e))
  go false e = refl
