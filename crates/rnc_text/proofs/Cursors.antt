-- Cursors in a text, and the characters between them.
use Rattle.std.proofs.Common.{◌≡◌, ℕ, ◌-◌, ◌<◌, true, false, eqb, inl, inr, List, [], ◌∷◌, ◌++◌, length, take, Option, Some, None, refl, sym, ap, subst}
use Rattle.std.proofs.Common.{◌∙◌, append_assoc, arith}
use Rattle.std.specs.Str.{chars, IsUtf8, IsCharBoundary, encode_utf8_all}
use Rattle.std.specs.Char.{encode_utf8}
use Rattle.std.proofs.lemmas.List.{length-append, append-nil, map-append}
use Rattle.std.proofs.Math.Seq.{take-append_seam}
use Rattle.std.proofs.lemmas.Str.{encodes-append, encodes-chars, length-le-encodes, IsCharBoundary-at_seam}
use Rattle.std.proofs.lemmas.Option.{none-some, same_Some, some_pair_parts}
use Rattle.rnc_text.proofs.AsciiRuns.{marked_none}
use Rattle.rng_model.proofs.Truths.{chosen}
use Rattle.rnc_model.specs.declared.character.Character.{Character}
use Rattle.rnc_model.specs.declared.character.Character.TheVariants.{Ordinary}
use Rattle.rnc_text.specs.declared.cursor.Cursor.{Cursor}
use Rattle.rnc_model.specs.characters.Decoding.{number_of, numbers_of, bytes_of}
use Rattle.rnc_text.specs.views.Held.{unmarked, marked, next_marks}
use Rattle.rnc_text.specs.plain.DecodingSteps.{first_and_rest}
use Rattle.rnc_text.specs.plain.Cursors.{remaining, IsPast}

pub bytes_append : (xs ys : List Character) → bytes_of (xs ++ ys) ≡ bytes_of xs ++ bytes_of ys
bytes_append xs ys = ap encode_utf8_all (map-append number_of xs ys) ∙ encodes-append (numbers_of xs) (numbers_of ys)

pub past_none : (a : Cursor) → IsPast a [] a
past_none a = record { rest = refl; bytes = refl; whole = refl }

pub past_then : (a b c : Cursor) (xs ys : List Character) → IsPast a xs b → IsPast b ys c → IsPast a (xs ++ ys) c
past_then a b c xs ys p q = record {
  rest = p.rest ∙ ap (λ (x : List Character). xs ++ x) q.rest ∙ sym (append_assoc xs ys (remaining c));
  bytes = p.bytes ∙ ap (λ (x : List ℕ). bytes_of xs ++ x) q.bytes ∙ sym (append_assoc (bytes_of xs) (bytes_of ys) c.rest.now)
      ∙ ap (λ (x : List ℕ). x ++ c.rest.now) (sym (bytes_append xs ys));
  whole = q.whole ∙ p.whole;
}

pub past_shorter : (a b : Cursor) (x : Character) → IsPast a (x ∷ []) b → length b.rest.now < length a.rest.now
past_shorter a b x p = omega (arith, ap length p.bytes, length-append (bytes_of (x ∷ [])) b.rest.now, length-le-encodes (numbers_of (x ∷ [])))

-- ---- one step

none_marked : (whole : ℕ) (ms : List ℕ) → marked whole ms [] ≡ []
unfolding marked
none_marked whole ms = refl

nothing_at : (whole : ℕ) (ms cs : List ℕ) → None ≡ first_and_rest cs → marked whole ms cs ≡ []
nothing_at whole ms [] e = none_marked whole ms
nothing_at whole ms (c ∷ cs) e = absurd (none-some _ e)

pub nothing_left : (whole : ℕ) (ms bs : List ℕ) → None ≡ first_and_rest (chars bs) → marked whole ms (chars bs) ≡ []
nothing_left whole ms bs e = nothing_at whole ms (chars bs) e

first_is : (c : ℕ) (cs ds : List ℕ) → ◌≡◌ {A = Option (ℕ × List ℕ)} (Some (c, ds)) (first_and_rest cs) → cs ≡ c ∷ ds
first_is c [] ds e = absurd (none-some _ (sym e))
first_is c (d ∷ cs) ds e = let p = some_pair_parts _ _ _ _ e in let a = p.0 in let b = p.1 in cc

mark_at : (whole left m c : ℕ) (ms cs : List ℕ) → length (encode_utf8_all (c ∷ cs)) ≡ left → eqb m (whole - left) ≡ true
    → marked whole (m ∷ ms) (c ∷ cs) ≡ Ordinary c ∷ marked whole ms cs
unfolding marked
mark_at whole left m c ms cs e h = rw (e, h) refl

plain_at : (whole left m c : ℕ) (ms cs : List ℕ) → length (encode_utf8_all (c ∷ cs)) ≡ left → eqb m (whole - left) ≡ false
    → marked whole (m ∷ ms) (c ∷ cs) ≡ unmarked c ∷ marked whole (m ∷ ms) cs
unfolding marked
plain_at whole left m c ms cs e h = rw (e, h) refl

marked_step : (whole left c : ℕ) (ms ns cs : List ℕ) → length (encode_utf8_all (c ∷ cs)) ≡ left → next_marks (whole - left) ms ≡ Some ns
    → marked whole ms (c ∷ cs) ≡ Ordinary c ∷ marked whole ns cs
marked_step whole left c [] ns cs len e = absurd (none-some _ e)
marked_step whole left c (m ∷ ms) ns cs len e =
    elim (chosen (eqb m (whole - left)) _ _ _ e) [
      | inl h ↦ mark_at whole left m c ms cs len h.0 ∙ ap (λ (x : List ℕ). Ordinary c ∷ marked whole x cs) (same_Some _ _ h.1)
      | inr h ↦ absurd (none-some _ h.1)
    ]

plain_step : (whole left c : ℕ) (ms cs : List ℕ) → length (encode_utf8_all (c ∷ cs)) ≡ left → next_marks (whole - left) ms ≡ None
    → marked whole ms (c ∷ cs) ≡ unmarked c ∷ marked whole ms cs
plain_step whole left c [] cs len e = marked_none whole c cs
plain_step whole left c (m ∷ ms) cs len e =
    elim (chosen (eqb m (whole - left)) _ _ _ e) [
      | inl h ↦ absurd (none-some _ (sym h.1))
      | inr h ↦ plain_at whole left m c ms cs len h.0
    ]

chars_length : (bs cs : List ℕ) → IsUtf8 bs → chars bs ≡ cs → length (encode_utf8_all cs) ≡ length bs
chars_length bs cs u e = ap (λ (x : List ℕ). length (encode_utf8_all x)) (sym e) ∙ ap length (encodes-chars bs u)

pub steps_marked : (whole : ℕ) (ms ns bs rest : List ℕ) (c : ℕ) → IsUtf8 bs → ◌≡◌ {A = Option (ℕ × List ℕ)} (Some (c, chars rest)) (first_and_rest (chars bs))
    → Some ns ≡ next_marks (whole - length bs) ms → marked whole ms (chars bs) ≡ Ordinary c ∷ marked whole ns (chars rest)
steps_marked whole ms ns bs rest c u first next =
    let e = first_is c (chars bs) (chars rest) first in
    ap (marked whole ms) e ∙ marked_step whole (length bs) c ms ns (chars rest) (chars_length bs (c ∷ chars rest) u e) (sym next)

pub steps_plain : (whole : ℕ) (ms bs rest : List ℕ) (c : ℕ) → IsUtf8 bs → ◌≡◌ {A = Option (ℕ × List ℕ)} (Some (c, chars rest)) (first_and_rest (chars bs))
    → None ≡ next_marks (whole - length bs) ms → marked whole ms (chars bs) ≡ unmarked c ∷ marked whole ms (chars rest)
steps_plain whole ms bs rest c u first next =
    let e = first_is c (chars bs) (chars rest) first in
    ap (marked whole ms) e ∙ plain_step whole (length bs) c ms (chars rest) (chars_length bs (c ∷ chars rest) u e) (sym next)

pub bytes_first : (bs rest : List ℕ) (c : ℕ) (d : Character) → number_of d ≡ c → bs ≡ encode_utf8 c ++ rest → bs ≡ bytes_of (d ∷ []) ++ rest
bytes_first bs rest c d e f = f ∙ ap (λ (x : List ℕ). x ++ rest) (sym (append-nil (encode_utf8 c)) ∙ ap (λ (n : ℕ). encode_utf8 n ++ []) (sym e))

-- ---- the text between

pub seam : (bs end : List ℕ) (taken : List Character) → IsUtf8 end → bs ≡ bytes_of taken ++ end → IsCharBoundary bs (length bs - length end)
seam bs end taken u e =
    let n : length bs - length end ≡ length (bytes_of taken) = omega (arith, ap length e, length-append (bytes_of taken) end) in
    subst (IsCharBoundary bs) (sym n) (IsCharBoundary-at_seam bs (bytes_of taken) end e u)

pub between : (bs end text : List ℕ) (taken : List Character) → bs ≡ bytes_of taken ++ end → text ≡ take (length bs - length end) bs → text ≡ bytes_of taken
between bs end text taken e f =
    let n : length bs - length end ≡ length (bytes_of taken) = omega (arith, ap length e, length-append (bytes_of taken) end) in
    f ∙ ap (λ (n : ℕ). take n bs) n ∙ ap (take (length (bytes_of taken))) e ∙ take-append_seam (bytes_of taken) end
