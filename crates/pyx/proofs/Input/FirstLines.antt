-- The first line of bytes.
use Rattle.std.proofs.Common.{◌≡◌, ℕ, Bool, true, false, cond, eqb, List, [], ◌∷◌, take, drop, Option, Some, None, refl, sym, ◌∙◌, one-add}
use Rattle.std.proofs.Common.{◌+◌, ◌<◌, length, arith, ◌++◌, ap, subst}
use Rattle.std.specs.List.{list_all}
use Rattle.std.proofs.lemmas.List.{length-append}
use Rattle.std.proofs.lemmas.List.Folds.{list_all-append}
use Rattle.pyx.specs.plain.PlainBytes.{is_plain}
use Rattle.pyx.proofs.Lines.WrittenNames.{joins, at_joins}
use Rattle.std.specs.List.{prefix_len, position_or_len}
use Rattle.std.proofs.lemmas.List.Sums.{position_or_len_is}
use Rattle.std.proofs.lemmas.Bool.{false_from_ne_true, and_parts}
use Rattle.memchr.specs.Find.{Nowhere, NoneBefore, Passes, is_byte}
use Rattle.pyx.specs.plain.Cuts.{at_byte, at_front}
use Rattle.pyx.specs.plain.Pieces.{is_within}

abbrev by_drop : List ℕ → List ℕ → Option (List ℕ × List ℕ)
by_drop front [] = None
by_drop front (c ∷ cs) = Some (front, cs)

front_first : (c : ℕ) (front rest : List ℕ) → at_front c (by_drop front rest) ≡ by_drop (c ∷ front) rest
front_first c front [] = refl
front_first c front (d ∷ ds) = refl

line_cut : (bytes : List ℕ) → at_byte 10 bytes ≡ by_drop (take (prefix_len is_within bytes) bytes) (drop (prefix_len is_within bytes) bytes)
unfolding at_byte
line_cut [] = refl
line_cut (b ∷ bs) = go (eqb b 10) refl (line_cut bs) where
  go : (x : Bool) → eqb b 10 ≡ x → at_byte 10 bs ≡ by_drop (take (prefix_len is_within bs) bs) (drop (prefix_len is_within bs) bs) →
      cond x (Some ([], bs)) (at_front b (at_byte 10 bs)) ≡ by_drop (take (prefix_len is_within (b ∷ bs)) (b ∷ bs))
      (drop (prefix_len is_within (b ∷ bs)) (b ∷ bs))
  go true q more = rw q refl
  go false q more = rw (q, one-add, more) (front_first b _ _)

-- in the form of the code
pub cut_some : (bytes front rest after : List ℕ) (c : ℕ) → front ≡ take (prefix_len is_within bytes) bytes → rest ≡ drop (prefix_len is_within bytes) bytes
    → rest ≡ c ∷ after → Some (front, after) ≡ at_byte 10 bytes
cut_some bytes front rest after c e f g = sym (line_cut bytes ∙ rw (← e, ← f, g) refl)

pub cut_none : (bytes front rest : List ℕ) → front ≡ take (prefix_len is_within bytes) bytes → rest ≡ drop (prefix_len is_within bytes) bytes
    → rest ≡ [] → None ≡ at_byte 10 bytes
cut_none bytes front rest e f g = sym (line_cut bytes ∙ rw (← e, ← f, g) refl)

-- ---- by a search for the line feed

same_len : (bytes : List ℕ) → position_or_len (is_byte 10) bytes ≡ prefix_len is_within bytes
same_len [] = refl
same_len (b ∷ bs) = go (eqb b 10) refl (same_len bs) where
  go : (x : Bool) → eqb b 10 ≡ x → position_or_len (is_byte 10) bs ≡ prefix_len is_within bs
      → position_or_len (is_byte 10) (b ∷ bs) ≡ prefix_len is_within (b ∷ bs)
  go true q more = rw q refl
  go false q more = rw (q, more) refl

is_len : (bytes : List ℕ) (k : ℕ) → position_or_len (is_byte 10) bytes ≡ k → k ≡ prefix_len is_within bytes
is_len bytes k e = sym e ∙ same_len bytes

pub line_feed_at : (bytes : List ℕ) (k : ℕ) → NoneBefore (Passes (is_byte 10) bytes) 0 (length bytes) k → Passes (is_byte 10) bytes k
    → k ≡ prefix_len is_within bytes
line_feed_at bytes k none here = is_len bytes k (position_or_len_is (is_byte 10) bytes k 0 (omega (arith, none.high))
    (λ j l. false_from_ne_true _ (none.before j (omega arith) l)) (λ l. here))

pub no_line_feed : (bytes : List ℕ) → Nowhere (Passes (is_byte 10) bytes) 0 (length bytes) → length bytes ≡ prefix_len is_within bytes
no_line_feed bytes none = is_len bytes (length bytes) (position_or_len_is (is_byte 10) bytes (length bytes) 0 (omega arith)
    (λ j l. false_from_ne_true _ (none j (omega arith) l)) (λ l. absurd (omega (arith, l))))

-- ---- a line of plain bytes

pub record Halves (bytes front after : List ℕ) : Type 0 where
  pub parts : front ++ 10 ∷ after ≡ bytes
  pub front_plain : list_all is_plain front ≡ true
  pub after_plain : list_all is_plain after ≡ true
  pub shorter : length front + length after < length bytes

pub halves : (bytes front after : List ℕ) → Some (front, after) ≡ at_byte 10 bytes → list_all is_plain bytes ≡ true → Halves bytes front after
halves bytes front after e h =
    let j : front ++ 10 ∷ after ≡ bytes = subst (λ o. joins 10 o bytes) (sym e) (at_joins 10 bytes) in
    let p = and_parts (list_all is_plain front) (list_all is_plain (10 ∷ after))
    (sym (list_all-append is_plain front (10 ∷ after)) ∙ ap (list_all is_plain) j ∙ h) in
    record {
      parts = j;
      front_plain = p.0;
      after_plain = (and_parts (is_plain 10) (list_all is_plain after) p.1).1;
      shorter = omega (arith, length-append front (10 ∷ after), ap length j);
    }
