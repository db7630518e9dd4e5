-- What is written for a character between quotes is read back as this character.
use Rattle.std.proofs.Common.{◌≡◌, ◌∙◌, ◌≢◌, ℕ, Bool, true, false, cond, List, [], ◌∷◌, ◌++◌, refl, sym, subst, arith, codes}
use Rattle.std.specs.Prelude.{◌&&◌, ◌==◌}
use Rattle.std.specs.Char.{is_digit, IsScalar}
use Rattle.std.specs.Str.{all_scalars}
use Rattle.std.proofs.lemmas.Bool.{eqb-true, eqb-false}
use Rattle.rng_model.specs.names.Names.{is_xml_char}
use Rattle.rnc_model.specs.declared.character.Character.TheVariants.{Ordinary}
use Rattle.rnc_model.specs.characters.Decoding.{AreDigits, hexadecimal, Begins, escape, other}
use Rattle.rncv_model.specs.printed.Words.{escaped}
use Rattle.rnc_text.specs.plain.Marks.{IsReadBack}
use Rattle.rnc_text.proofs.MarksDecoded.{no_escape}

two_digits : (a b : ℕ) → (is_digit a 16 && (is_digit b 16 && true)) ≡ true → AreDigits (a ∷ b ∷ [])
two_digits a b h = record { some = omega arith; most = omega arith; are_hexadecimal = h }

one_digit : (a : ℕ) → (is_digit a 16 && true) ≡ true → AreDigits (a ∷ [])
one_digit a h = record { some = omega arith; most = omega arith; are_hexadecimal = h }

escape_begins : (c d : ℕ) (digits rest : List ℕ) → AreDigits digits → hexadecimal digits ≡ d → is_xml_char d ≡ true → c ≡ d
    → Begins (0x5C ∷ 0x78 ∷ 0x7B ∷ (digits ++ 0x7D ∷ rest)) (Ordinary c) rest
escape_begins c d digits rest a h x e = escape a (e ∙ sym h) (subst (λ (y : ℕ). is_xml_char y ≡ true) (sym e) x) refl

escaped_begins : (c : ℕ) (rest : List ℕ) → is_xml_char c ≡ true → Begins (escaped c ++ rest) (Ordinary c) rest
escaped_begins c rest x = backslash (c == 0x5C) refl
  where
    return : (b : Bool) → (c == 0xD) ≡ b → c ≢ 0x5C → c ≢ 0xA → Begins (cond b (0x5C ∷ codes "x{D}") (c ∷ []) ++ rest) (Ordinary c) rest
    return true e m n = escape_begins c 0xD (0x44 ∷ []) rest (one_digit 0x44 refl) refl refl (eqb-true c 0xD e)
    return false e m n = other (eqb-false c 0xD e) n x (no_escape c rest m) refl

    feed : (b : Bool) → (c == 0xA) ≡ b → c ≢ 0x5C
        → Begins (cond b (0x5C ∷ codes "x{A}") (cond (c == 0xD) (0x5C ∷ codes "x{D}") (c ∷ [])) ++ rest) (Ordinary c) rest
    feed true e m = escape_begins c 0xA (0x41 ∷ []) rest (one_digit 0x41 refl) refl refl (eqb-true c 0xA e)
    feed false e m = return (c == 0xD) refl m (eqb-false c 0xA e)

    tab : (b : Bool) → (c == 0x9) ≡ b → c ≢ 0x5C
        → Begins (cond b (0x5C ∷ codes "x{9}") (cond (c == 0xA) (0x5C ∷ codes "x{A}") (cond (c == 0xD) (0x5C ∷ codes "x{D}") (c ∷ []))) ++ rest)
        (Ordinary c) rest
    tab true e m = escape_begins c 0x9 (0x39 ∷ []) rest (one_digit 0x39 refl) refl refl (eqb-true c 0x9 e)
    tab false e m = feed (c == 0xA) refl m

    backslash : (b : Bool) → (c == 0x5C) ≡ b
        → Begins (cond b (0x5C ∷ codes "x{5C}")
        (cond (c == 0x9) (0x5C ∷ codes "x{9}") (cond (c == 0xA) (0x5C ∷ codes "x{A}") (cond (c == 0xD) (0x5C ∷ codes "x{D}") (c ∷ [])))) ++ rest)
        (Ordinary c) rest
    backslash true e = escape_begins c 0x5C (0x35 ∷ 0x43 ∷ []) rest (two_digits 0x35 0x43 refl) refl refl (eqb-true c 0x5C e)
    backslash false e = tab (c == 0x9) refl (eqb-false c 0x5C e)

escaped_scalars : (c : ℕ) → IsScalar c → all_scalars (escaped c) ≡ true
escaped_scalars c x = at_tests (c == 0x5C) (c == 0x9) (c == 0xA) (c == 0xD)
  where
    at_tests : (x y z w : Bool) → all_scalars
        (cond x (0x5C ∷ codes "x{5C}") (cond y (0x5C ∷ codes "x{9}") (cond z (0x5C ∷ codes "x{A}") (cond w (0x5C ∷ codes "x{D}") (c ∷ []))))) ≡ true
    at_tests true y z w = refl
    at_tests false true z w = refl
    at_tests false false true w = refl
    at_tests false false false true = refl
    at_tests false false false false = rw x refl

pub escaped_back : IsReadBack escaped
escaped_back = record { scalars = escaped_scalars; begins = escaped_begins }
