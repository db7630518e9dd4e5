-- What a text keeps when one character is appended.
use Rattle.std.proofs.Common.{◌≡◌, ℕ, ◌+◌, ◌-◌, ◌≤◌, Bool, true, false, cond, eqb, Result, Ok, Err, List, [], ◌∷◌, ◌++◌, length, map, append_assoc, refl, sym}
use Rattle.std.proofs.Common.{ap, ap₂, subst, ◌∙◌}
use Rattle.std.proofs.Common.{arith}
use Rattle.std.specs.Prelude.{IfOk, is_ok}
use Rattle.std.specs.Str.{chars, IsUtf8, encode_utf8_all}
use Rattle.std.specs.Char.{encode_utf8}
use Rattle.std.proofs.lemmas.Bool.{eqb-true, eq-eqb, ne_eqb}
use Rattle.std.proofs.lemmas.List.{length-append, append-nil}
use Rattle.std.proofs.lemmas.Str.{chars-append, encodes-append, encodes_same, encodes-chars, length-le-encodes}
use Rattle.rnc_model.specs.characters.Decoding.{number_of, numbers_of, bytes_of}
use Rattle.rnc_text.specs.views.Held.{unmarked, marked, unused, with_marks, AreMarks}
use Rattle.rnc_model.specs.declared.character.Character.{Character}
use Rattle.rnc_model.specs.declared.character.Character.TheVariants.{Ordinary}

-- ---- the decoded text is that of the characters

pub number_unmarked : (c : ℕ) → number_of (unmarked c) ≡ c
number_unmarked c = go (eqb c 10) refl where
  go : (b : Bool) → eqb c 10 ≡ b → number_of (unmarked c) ≡ c
  go true e = rw e (sym (eqb-true c 10 e))
  go false e = rw e refl

pub numbers_marked : (whole : ℕ) (ms cs : List ℕ) → numbers_of (marked whole ms cs) ≡ cs
unfolding marked
numbers_marked whole ms [] = refl
numbers_marked whole [] (c ∷ cs) = let a = number_unmarked c in let b = numbers_marked whole [] cs in cc
numbers_marked whole (m ∷ ms) (c ∷ cs) =
    numbers_step whole m c ms cs (eqb m (whole - length (encode_utf8_all (c ∷ cs)))) refl (numbers_marked whole ms cs) (numbers_marked whole (m ∷ ms) cs)
  where
    numbers_step : (whole m c : ℕ) (ms cs : List ℕ) (b : Bool) → eqb m (whole - length (encode_utf8_all (c ∷ cs))) ≡ b → numbers_of (marked whole ms cs) ≡ cs
        → numbers_of (marked whole (m ∷ ms) cs) ≡ cs → numbers_of (marked whole (m ∷ ms) (c ∷ cs)) ≡ c ∷ cs
    numbers_step whole m c ms cs true e p q = rw e (ap (λ (x : List ℕ). c ∷ x) p)
    numbers_step whole m c ms cs false e p q = rw e (let a = number_unmarked c in cc)

pub bytes_kept : (bs ms : List ℕ) → IsUtf8 bs → bs ≡ bytes_of (with_marks bs ms)
bytes_kept bs ms u = rw (numbers_marked (length bs) ms (chars bs)) (sym (encodes-chars bs u))

-- the marks of a text, with its bytes, have its characters
pub marks_kept : (bs ms : List ℕ) (cs : List Character) → IsUtf8 bs → with_marks bs ms ≡ cs → with_marks (bytes_of cs) ms ≡ cs
marks_kept bs ms cs u e = ap (λ (x : List ℕ). with_marks x ms) (sym (bytes_kept bs ms u ∙ ap bytes_of e)) ∙ e

-- ---- one more character

grown : (whole c d : ℕ) (cs : List ℕ)
    → (whole + length (encode_utf8 d)) - length (encode_utf8_all (c ∷ (cs ++ d ∷ []))) ≡ whole - length (encode_utf8_all (c ∷ cs))
grown whole c d cs =
    let e : encode_utf8_all (c ∷ (cs ++ d ∷ [])) ≡ encode_utf8_all (c ∷ cs) ++ (encode_utf8 d ++ []) = encodes-append (c ∷ cs) (d ∷ []) in
    let f = append-nil (encode_utf8 d) in
    let g : length (encode_utf8_all (c ∷ (cs ++ d ∷ []))) ≡ length (encode_utf8_all (c ∷ cs)) + length (encode_utf8 d) = ap length e ∙ length-append _ _
    ∙ ap (λ (x : List ℕ). length (encode_utf8_all (c ∷ cs)) + length x) f in
    rw g (omega arith)

-- after one more character with no mark
record Plain (whole d : ℕ) (ms cs : List ℕ) : Type 0 where
  pub is : marked (whole + length (encode_utf8 d)) ms (cs ++ d ∷ []) ≡ marked whole ms cs ++ unmarked d ∷ []
  pub used : unused (whole + length (encode_utf8 d)) ms (cs ++ d ∷ []) ≡ []

plain_first : (whole c d : ℕ) (cs : List ℕ) → Plain whole d [] cs → Plain whole d [] (c ∷ cs)
unfolding marked unused
plain_first whole c d cs p = record { is = ap (λ (x : List Character). unmarked c ∷ x) p.is; used = p.used }

plain_next : (whole m c d : ℕ) (ms cs : List ℕ) (b : Bool) → eqb m (whole - length (encode_utf8_all (c ∷ cs))) ≡ b → unused whole (m ∷ ms) (c ∷ cs) ≡ []
    → (unused whole ms cs ≡ [] → Plain whole d ms cs) → (unused whole (m ∷ ms) cs ≡ [] → Plain whole d (m ∷ ms) cs) → Plain whole d (m ∷ ms) (c ∷ cs)
unfolding marked unused
plain_next whole m c d ms cs true e u p q =
    let r = p (rw e at u) in
    record { is = rw (grown whole c d cs, e) (ap (λ (x : List Character). Ordinary c ∷ x) r.is); used = rw (grown whole c d cs, e) r.used }
plain_next whole m c d ms cs false e u p q =
    let r = q (rw e at u) in
    record { is = rw (grown whole c d cs, e) (ap (λ (x : List Character). unmarked c ∷ x) r.is); used = rw (grown whole c d cs, e) r.used }

plain_end : (whole d : ℕ) → Plain whole d [] []
unfolding marked unused
plain_end whole d = record { is = refl; used = refl }

used_nil : (whole m : ℕ) (ms : List ℕ) → unused whole (m ∷ ms) [] ≡ [] → ⊥
unfolding unused
used_nil whole m ms e = cc

used_first : (whole c : ℕ) (cs : List ℕ) → unused whole [] (c ∷ cs) ≡ [] → unused whole [] cs ≡ []
unfolding unused
used_first whole c cs e = e

plain : (whole d : ℕ) (ms cs : List ℕ) → unused whole ms cs ≡ [] → Plain whole d ms cs
plain whole d [] [] u = plain_end whole d
plain whole d (m ∷ ms) [] u = absurd (used_nil whole m ms u)
plain whole d [] (c ∷ cs) u = plain_first whole c d cs (plain whole d [] cs (used_first whole c cs u))
plain whole d (m ∷ ms) (c ∷ cs) u =
    plain_next whole m c d ms cs (eqb m (whole - length (encode_utf8_all (c ∷ cs)))) refl u (λ e. plain whole d ms cs e) (λ e. plain whole d (m ∷ ms) cs e)

-- after one more character whose offset is marked
record Marked (whole d : ℕ) (ms cs : List ℕ) : Type 0 where
  pub is : marked (whole + length (encode_utf8 d)) (ms ++ whole ∷ []) (cs ++ d ∷ []) ≡ marked whole ms cs ++ Ordinary d ∷ []
  pub used : unused (whole + length (encode_utf8 d)) (ms ++ whole ∷ []) (cs ++ d ∷ []) ≡ []

marked_end : (whole d : ℕ) → Marked whole d [] []
unfolding marked unused
marked_end whole d =
    let f = ap length (append-nil (encode_utf8 d)) in
    let e : eqb whole ((whole + length (encode_utf8 d)) - length (encode_utf8_all (d ∷ []))) ≡ true = eq-eqb _ _ (omega (arith, f)) in
    record { is = rw e refl; used = rw e refl }

marked_first : (whole c d : ℕ) (cs : List ℕ) → length (encode_utf8_all (c ∷ cs)) ≤ whole → Marked whole d [] cs → Marked whole d [] (c ∷ cs)
unfolding marked unused
marked_first whole c d cs le p =
    let e : eqb whole (whole - length (encode_utf8_all (c ∷ cs))) ≡ false = ne_eqb _ _ (λ same. absurd (omega (arith, same, le, length-le-encodes (c ∷ cs)))) in
    record { is = rw (grown whole c d cs, e) (ap (λ (x : List Character). unmarked c ∷ x) p.is); used = rw (grown whole c d cs, e) p.used }

marked_next : (whole m c d : ℕ) (ms cs : List ℕ) (b : Bool) → eqb m (whole - length (encode_utf8_all (c ∷ cs))) ≡ b → unused whole (m ∷ ms) (c ∷ cs) ≡ []
    → (unused whole ms cs ≡ [] → Marked whole d ms cs) → (unused whole (m ∷ ms) cs ≡ [] → Marked whole d (m ∷ ms) cs) → Marked whole d (m ∷ ms) (c ∷ cs)
unfolding marked unused
marked_next whole m c d ms cs true e u p q =
    let r = p (rw e at u) in
    record { is = rw (grown whole c d cs, e) (ap (λ (x : List Character). Ordinary c ∷ x) r.is); used = rw (grown whole c d cs, e) r.used }
marked_next whole m c d ms cs false e u p q =
    let r = q (rw e at u) in
    record { is = rw (grown whole c d cs, e) (ap (λ (x : List Character). unmarked c ∷ x) r.is); used = rw (grown whole c d cs, e) r.used }

fewer : (whole c : ℕ) (cs : List ℕ) → length (encode_utf8_all (c ∷ cs)) ≤ whole → length (encode_utf8_all cs) ≤ whole
fewer whole c cs le = omega (arith, le, length-append (encode_utf8 c) (encode_utf8_all cs))

with_mark : (whole d : ℕ) (ms cs : List ℕ) → length (encode_utf8_all cs) ≤ whole → unused whole ms cs ≡ [] → Marked whole d ms cs
with_mark whole d [] [] le u = marked_end whole d
with_mark whole d (m ∷ ms) [] le u = absurd (used_nil whole m ms u)
with_mark whole d [] (c ∷ cs) le u = marked_first whole c d cs le (with_mark whole d [] cs (fewer whole c cs le) (used_first whole c cs u))
with_mark whole d (m ∷ ms) (c ∷ cs) le u =
    marked_next whole m c d ms cs (eqb m (whole - length (encode_utf8_all (c ∷ cs)))) refl u (λ e. with_mark whole d ms cs (fewer whole c cs le) e)
    (λ e. with_mark whole d (m ∷ ms) cs (fewer whole c cs le) e)

-- ---- more characters with no mark

record PlainAll (whole : ℕ) (ds ms cs : List ℕ) : Type 0 where
  pub is : marked (whole + length (encode_utf8_all ds)) ms (cs ++ ds) ≡ marked whole ms cs ++ map unmarked ds
  pub used : unused (whole + length (encode_utf8_all ds)) ms (cs ++ ds) ≡ []

plain_all : (whole : ℕ) (ds ms cs : List ℕ) → unused whole ms cs ≡ [] → PlainAll whole ds ms cs
plain_all whole [] ms cs u =
    let none : whole + length (encode_utf8_all []) ≡ whole = omega arith in
    record {
      is = ap₂ (λ (w : ℕ) (x : List ℕ). marked w ms x) none (append-nil cs) ∙ sym (append-nil (marked whole ms cs));
      used = ap₂ (λ (w : ℕ) (x : List ℕ). unused w ms x) none (append-nil cs) ∙ u;
    }
plain_all whole (d ∷ ds) ms cs u =
    let p = plain whole d ms cs u in
    let r = plain_all (whole + length (encode_utf8 d)) ds ms (cs ++ d ∷ []) p.used in
    let len : whole + length (encode_utf8_all (d ∷ ds)) ≡ (whole + length (encode_utf8 d)) + length (encode_utf8_all ds) =
    omega (arith, length-append (encode_utf8 d) (encode_utf8_all ds)) in
    let joined : cs ++ d ∷ ds ≡ (cs ++ d ∷ []) ++ ds = sym (append_assoc cs (d ∷ []) ds) in
    record {
      is = ap₂ (λ (w : ℕ) (x : List ℕ). marked w ms x) len joined ∙ r.is ∙ ap (λ (x : List Character). x ++ map unmarked ds) p.is
          ∙ append_assoc (marked whole ms cs) (unmarked d ∷ []) (map unmarked ds);
      used = ap₂ (λ (w : ℕ) (x : List ℕ). unused w ms x) len joined ∙ r.used;
    }

-- ---- at the bytes of a text

chars_push : (old new : List ℕ) (c : ℕ) → IsUtf8 old → IsUtf8 new → new ≡ old ++ encode_utf8 c → chars new ≡ chars old ++ c ∷ []
chars_push old new c u v e =
    encodes_same (chars new) (chars old ++ c ∷ [])
    (encodes-chars new v ∙ e
    ∙ sym (encodes-append (chars old) (c ∷ []) ∙ ap (λ (x : List ℕ). x ++ (encode_utf8 c ++ [])) (encodes-chars old u)
    ∙ ap (λ (x : List ℕ). old ++ x) (append-nil (encode_utf8 c))))

-- the new bytes and marks represent one character more, and no mark is unused
pub record Grows (old new : List ℕ) (before after : List ℕ) (c : Character) : Type 0 where
  pub is : with_marks new after ≡ with_marks old before ++ c ∷ []
  pub are : AreMarks new after

pub grows_plain : (old new ms : List ℕ) (c : ℕ) → IsUtf8 old → IsUtf8 new → new ≡ old ++ encode_utf8 c → AreMarks old ms
    → Grows old new ms ms (unmarked c)
grows_plain old new ms c u v e used =
    let len : length new ≡ length old + length (encode_utf8 c) = ap length e ∙ length-append _ _ in
    let p = plain (length old) c ms (chars old) used in
    record { is = rw (chars_push old new c u v e, len) p.is; are = rw (chars_push old new c u v e, len) p.used }

pub grows_marked : (old new ms after : List ℕ) (c : ℕ) → IsUtf8 old → IsUtf8 new → new ≡ old ++ encode_utf8 c → after ≡ ms ++ length old ∷ []
    → AreMarks old ms → Grows old new ms after (Ordinary c)
grows_marked old new ms after c u v e marks used =
    let len : length new ≡ length old + length (encode_utf8 c) = ap length e ∙ length-append _ _ in
    let p = with_mark (length old) c ms (chars old) (omega (arith, ap length (encodes-chars old u))) used in
    record { is = rw (chars_push old new c u v e, len, marks) p.is; are = rw (chars_push old new c u v e, len, marks) p.used }

pub unmarked_other : (c : ℕ) → (c ≡ 10 → ⊥) → unmarked c ≡ Ordinary c
unmarked_other c h = rw (ne_eqb c 10 h) refl

pub nothing_kept : (bs ms : List ℕ) → bs ≡ [] → ms ≡ [] → (with_marks bs ms ≡ []) × AreMarks bs ms
unfolding marked unused chars
nothing_kept bs ms e f = rw (e, f) (refl, refl)

pub if_ok : {X E P : Type 0} (r : Result X E) → (is_ok r ≡ true → P) → IfOk r (λ _. P)
if_ok (Ok x) f = f refl
if_ok (Err e) f = tt

-- an appended character without a mark, unless the call runs out of memory
pub pushed : {X E : Type 0} (r : Result X E) (old new ms : List ℕ) (c : ℕ) (d : Character) (cs : List Character)
    → new ≡ cond (is_ok r) (old ++ encode_utf8 c) old → IsUtf8 old → IsUtf8 new → AreMarks old ms → unmarked c ≡ d → with_marks old ms ≡ cs
    → IfOk r (λ _. with_marks new ms ≡ cs ++ d ∷ [])
pushed (Ok x) old new ms c d cs e u v are is before =
    (grows_plain old new ms c u v e are).is ∙ ap (λ (x : List Character). x ++ unmarked c ∷ []) before ∙ ap (λ (d : Character). cs ++ d ∷ []) is
pushed (Err x) old new ms c d cs e u v are is before = tt

pub still_marks : {X E : Type 0} (r : Result X E) (old new ms : List ℕ) (c : ℕ) → new ≡ cond (is_ok r) (old ++ encode_utf8 c) old → IsUtf8 old → IsUtf8 new
    → AreMarks old ms → AreMarks new ms
still_marks (Ok x) old new ms c e u v are = (grows_plain old new ms c u v e are).are
still_marks (Err x) old new ms c e u v are = subst (λ (bs : List ℕ). AreMarks bs ms) (sym e) are

-- an appended text without marks, unless the call runs out of memory
record GrowsBy (old new ms more : List ℕ) : Type 0 where
  pub is : with_marks new ms ≡ with_marks old ms ++ map unmarked (chars more)
  pub are : AreMarks new ms

grows_by : (old new ms more : List ℕ) → IsUtf8 old → IsUtf8 more → new ≡ old ++ more → AreMarks old ms → GrowsBy old new ms more
grows_by old new ms more u v e used =
    let len : length new ≡ length old + length (encode_utf8_all (chars more)) = ap length e ∙ length-append old more
    ∙ ap (λ (x : List ℕ). length old + length x) (sym (encodes-chars more v)) in
    let all : chars new ≡ chars old ++ chars more = ap chars e ∙ chars-append old more u in
    let p = plain_all (length old) (chars more) ms (chars old) used in
    record { is = rw (all, len) p.is; are = rw (all, len) p.used }

pub appended : {X E : Type 0} (r : Result X E) (old new ms more : List ℕ) (cs : List Character) → new ≡ cond (is_ok r) (old ++ more) old → IsUtf8 old
    → IsUtf8 more → AreMarks old ms → with_marks old ms ≡ cs → IfOk r (λ _. with_marks new ms ≡ cs ++ map unmarked (chars more))
appended (Ok x) old new ms more cs e u v are before =
    (grows_by old new ms more u v e are).is ∙ ap (λ (x : List Character). x ++ map unmarked (chars more)) before
appended (Err x) old new ms more cs e u v are before = tt

pub still_marks_after : {X E : Type 0} (r : Result X E) (old new ms more : List ℕ) → new ≡ cond (is_ok r) (old ++ more) old → IsUtf8 old → IsUtf8 more
    → AreMarks old ms → AreMarks new ms
still_marks_after (Ok x) old new ms more e u v are = (grows_by old new ms more u v e are).are
still_marks_after (Err x) old new ms more e u v are = subst (λ (bs : List ℕ). AreMarks bs ms) (sym e) are
