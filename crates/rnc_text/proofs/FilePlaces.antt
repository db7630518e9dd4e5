-- From offsets to lines and columns: the invariants of the loops, and the places that they reach.
use Rattle.std.proofs.Common.{◌≡◌, ℕ, suc, ◌+◌, ◌-◌, ◌<◌, ◌≤◌, Bool, true, false, List, [], ◌∷◌, ◌++◌, length, take, Some, None}
use Rattle.std.proofs.Common.{refl, sym, ap, subst, ◌∙◌, arith}
use Rattle.std.specs.Char.{encode_utf8}
use Rattle.std.specs.Str.{chars, IsUtf8, IsValidUpTo, encode_utf8_all}
use Rattle.std.proofs.lemmas.Bool.{false≢true}
use Rattle.std.proofs.lemmas.List.{length-append, length-take-le, append-nil, append_assoc}
use Rattle.std.proofs.lemmas.Option.{none-some, some_pair_parts}
use Rattle.std.proofs.lemmas.Str.{encodes-chars, encodes_same, encodes-append, length-le-encodes}
use Rattle.rnc_model.specs.characters.Decoding.{bytes_of, byte_length, numbers_of, Begins, BreaksCharactersAt, BreaksUtf8At, Decodes, here, next_is, IsSpelling}
use Rattle.rnc_model.specs.characters.FilePlaces.{ends_line, position, IsPlaceBetween, IsPlaceBehind}
use Rattle.rnc_model.specs.declared.character.Character.{Character}
use Rattle.rnc_model.specs.declared.file_place.FilePlace.{FilePlace}
use Rattle.rnc_text.specs.plain.DecodingSteps.{first_and_rest, front_of}
use Rattle.rnc_text.proofs.Cursors.{bytes_append}
use Rattle.rnc_text.proofs.FrontCharacter.{begins_one, front_begins, nothing_begins}
use Rattle.rnc_text.proofs.OneDecoding.{parts, spelling_utf8, text_spelling}

-- ---- lines and columns

-- If the characters after a place have `left` bytes, the place has the line and the column that are counted from `line`
-- and `column` over `rest`.
abbrev pub Reaches : List ℕ → ℕ → ℕ → ℕ → List ℕ → Type 0
Reaches all left line column rest = (before after : List ℕ) → all ≡ before ++ after → length (encode_utf8_all after) ≡ left
    → (more : List ℕ) × (rest ≡ more ++ after) × (position 1 1 before after ≡ position line column more after)

pub reaches_from : (all : List ℕ) (left : ℕ) → Reaches all left 1 1 all
reaches_from all left before after is size = (before, is, refl)

-- if more bytes remain than are after the place, a character is before it
one_before : (c : ℕ) (tail more after : List ℕ) (left : ℕ) → c ∷ tail ≡ more ++ after → length (encode_utf8_all after) ≡ left
    → left < length (encode_utf8_all (c ∷ tail)) → (rest : List ℕ) × (more ≡ c ∷ rest) × (tail ≡ rest ++ after)
one_before c tail [] after left is size large = absurd (omega (arith, large, size, ap (λ (x : List ℕ). length (encode_utf8_all x)) is))
one_before c tail (d ∷ rest) after left is size large = (rest, cc, cc)

stepped : (c line column : ℕ) (rest after : List ℕ) (b : Bool) → ends_line c (rest ++ after) ≡ b → (l k : ℕ)
    → (b ≡ true → (l ≡ suc line) × (k ≡ 1)) → (b ≡ false → (l ≡ line) × (k ≡ suc column))
    → position line column (c ∷ rest) after ≡ position l k rest after
unfolding position
stepped c line column rest after true e l k ends goes = rw (e, (ends refl).0, (ends refl).1) refl
stepped c line column rest after false e l k ends goes = rw (e, (goes refl).0, (goes refl).1) refl

pub reaches_next : (all : List ℕ) (left line column : ℕ) (whole tail : List ℕ) (c : ℕ) (b : Bool) (l k : ℕ) → Reaches all left line column whole
    → whole ≡ c ∷ tail → left < length (encode_utf8_all whole) → b ≡ ends_line c tail
    → (b ≡ true → (l ≡ suc line) × (k ≡ 1)) → (b ≡ false → (l ≡ line) × (k ≡ suc column)) → Reaches all left l k tail
reaches_next all left line column whole tail c b l k reaches is large e ends goes before after parts size =
    let r = reaches before after parts size in
    let m = one_before c tail r.0 after left (sym is ∙ r.1) size (subst (λ (x : List ℕ). left < length (encode_utf8_all x)) is large) in
    let f : ends_line c (m.0 ++ after) ≡ b = sym (e ∙ ap (ends_line c) m.2) in (
      m.0,
      m.2,
      r.2 ∙ ap (λ (x : List ℕ). position line column x after) m.1 ∙ stepped c line column m.0 after b f l k ends goes,
    )

first_is : (cs tail : List ℕ) (c : ℕ) → Some (c, tail) ≡ first_and_rest cs → cs ≡ c ∷ tail
first_is [] tail c e = absurd (none-some _ (sym e))
first_is (d ∷ ds) tail c e = let p = some_pair_parts c d tail ds e in cc

pub shorter : (bs tail : List ℕ) (c : ℕ) → bs ≡ encode_utf8 c ++ tail → length tail < length bs
shorter bs tail c e = omega (arith, ap length e, length-append (encode_utf8 c) tail, length-append (encode_utf8 c) [], length-le-encodes (c ∷ []))

large_rest : (rest : List ℕ) (left : ℕ) → IsUtf8 rest → left < length rest → left < length (encode_utf8_all (chars rest))
large_rest rest left u large = omega (arith, large, ap length (encodes-chars rest u))

pub next_line : (all rest tail : List ℕ) (left line column c : ℕ) → IsUtf8 rest → Reaches all left line column (chars rest)
    → Some (c, chars tail) ≡ first_and_rest (chars rest) → left < length rest → ends_line c (chars tail) ≡ true → Reaches all left (line + 1) 1 (chars tail)
next_line all rest tail left line column c u reaches is large ends =
    reaches_next all left line column (chars rest) (chars tail) c true (line + 1) 1 reaches (first_is _ _ c is) (large_rest rest left u large) (sym ends)
    (λ e. (omega arith, refl)) (λ e. absurd (false≢true (sym e)))

pub next_column : (all rest tail : List ℕ) (left line column c : ℕ) → IsUtf8 rest → Reaches all left line column (chars rest)
    → Some (c, chars tail) ≡ first_and_rest (chars rest) → left < length rest → ends_line c (chars tail) ≡ false
    → Reaches all left line (column + 1) (chars tail)
next_column all rest tail left line column c u reaches is large goes =
    reaches_next all left line column (chars rest) (chars tail) c false line (column + 1) reaches (first_is _ _ c is) (large_rest rest left u large) (sym goes)
    (λ e. absurd (false≢true e)) (λ e. (refl, omega arith))

no_more : (more after : List ℕ) → length (encode_utf8_all (more ++ after)) ≤ length (encode_utf8_all after) → more ≡ []
no_more [] after small = refl
no_more (c ∷ cs) after small =
    absurd (omega (arith, small, ap length (encodes-append (c ∷ cs) after), length-append (encode_utf8_all (c ∷ cs)) (encode_utf8_all after), length-le-encodes (c ∷ cs)))

position_here : (line column : ℕ) (after : List ℕ) → position line column [] after ≡ (line, column)
unfolding position
position_here line column after = refl

-- the place, once no more bytes remain than are after it
pub reached : (text rest : List ℕ) (left line column offset : ℕ) → IsUtf8 text → IsUtf8 rest → Reaches (chars text) left line column (chars rest)
    → length rest ≤ left → offset ≡ length text - length rest → (before after : List ℕ) → chars text ≡ before ++ after
    → length (encode_utf8_all after) ≡ left → IsPlaceBetween before after (record { offset = offset; line = line; column = column })
reached text rest left line column offset u v reaches small offset-is before after parts size =
    let r = reaches before after parts size in
    let whole : length (encode_utf8_all (r.0 ++ after)) ≡ length rest = ap (λ (x : List ℕ). length (encode_utf8_all x)) (sym r.1) ∙ ap length (encodes-chars rest v) in
    let none : r.0 ≡ [] = no_more r.0 after (omega (arith, whole, small, size)) in
    let left-is : length rest ≡ length (encode_utf8_all after) = sym whole ∙ ap (λ (x : List ℕ). length (encode_utf8_all (x ++ after))) none in
    let all : length text ≡ length (encode_utf8_all (before ++ after)) = ap length (sym (encodes-chars text u)) ∙ ap (λ (x : List ℕ). length (encode_utf8_all x)) parts in
    record {
      offset_is = omega (arith, offset-is, left-is, all, ap length (encodes-append before after), length-append (encode_utf8_all before) (encode_utf8_all after));
      position_is = r.2 ∙ ap (λ (x : List ℕ). position line column x after) none ∙ position_here line column after;
    }

-- ---- after decoded characters

-- if the first characters of `all` decode to `count` bytes, those that remain decode to `more` bytes, with the same
-- rest after them
abbrev pub Leaves : List ℕ → ℕ → ℕ → List ℕ → Type 0
Leaves all count more rest = (front : List Character) (after : List ℕ) → Decodes all front after → byte_length front ≡ count
    → (ds : List Character) × Decodes rest ds after × (byte_length ds ≡ more)

pub leaves_from : (all : List ℕ) (count : ℕ) → Leaves all count count all
leaves_from all count front after d size = (front, d, size)

length_one : (c : Character) (cs : List Character) → byte_length (c ∷ cs) ≡ byte_length (c ∷ []) + byte_length cs
length_one c cs = ap length (bytes_append (c ∷ []) cs) ∙ length-append (bytes_of (c ∷ [])) (bytes_of cs)

next_left : (c : Character) (whole tail after : List ℕ) (ds : List Character) (more : ℕ) → Begins whole c tail → Decodes whole ds after
    → byte_length ds ≡ more → 0 < more → (rest : List Character) × Decodes tail rest after × (byte_length rest ≡ more - byte_length (c ∷ []))
next_left c numbers tail after ds more b (here e) size some = absurd (omega (arith, size, some))
next_left c numbers tail after ds more b (next_is {c = d} {after = mid} {cs = rest} p q f) size some =
    let same = begins_one d c mid tail p b in
    let e : byte_length ds ≡ byte_length (c ∷ []) + byte_length rest =
    ap byte_length f ∙ ap (λ (x : Character). byte_length (x ∷ rest)) same.0 ∙ length_one c rest in
    (rest, subst (λ (x : List ℕ). Decodes x rest after) same.1 q, omega (arith, e, size))

pub leaves_next : (all : List ℕ) (count more : ℕ) (whole tail : List ℕ) (c : Character) (m : ℕ) → Leaves all count more whole
    → Some (c, tail) ≡ front_of whole → 0 < more → m ≡ more - byte_length (c ∷ []) → Leaves all count m tail
leaves_next all count more whole tail c m leaves is some m-is front after d size =
    let l = leaves front after d size in
    let n = next_left c whole tail after l.0 more (front_begins whole c tail (sym is)) l.1 l.2 some in
    (n.0, n.1, n.2 ∙ sym m-is)

-- nothing is left
none_left : (ds : List Character) (whole after : List ℕ) → Decodes whole ds after → byte_length ds ≡ 0 → whole ≡ after
none_left ds numbers after (here e) size = e
none_left ds numbers after (next_is {c = c} {cs = rest} p q f) size =
    absurd (omega (arith, size, ap byte_length f, length_one c rest, length-le-encodes (numbers_of (c ∷ []))))

pub left_is : (all : List ℕ) (count more : ℕ) (rest : List ℕ) (front : List Character) (after : List ℕ) → IsUtf8 rest → Leaves all count more (chars rest)
    → more ≤ 0 → Decodes all front after → byte_length front ≡ count → length rest ≡ length (encode_utf8_all after)
left_is all count more rest front after u leaves none d size =
    let l = leaves front after d size in
    ap length (sym (encodes-chars rest u)) ∙ ap (λ (x : List ℕ). length (encode_utf8_all x)) (none_left l.0 (chars rest) after l.1 (omega (arith, l.2, none)))

-- no character begins, so nothing remains
pub no_left : (all : List ℕ) (count more : ℕ) (whole : List ℕ) (front : List Character) (after : List ℕ) → Leaves all count more whole → None ≡ front_of whole
    → 0 < more → Decodes all front after → byte_length front ≡ count → ⊥
no_left all count more numbers front after leaves none some d size =
    let l = leaves front after d size in
    go l.0 l.1 l.2
  where
    go : (ds : List Character) → Decodes numbers ds after → byte_length ds ≡ more → ⊥
    go ds (here e) is = absurd (omega (arith, is, some))
    go ds (next_is {c = c} {after = mid} p q f) is = nothing_begins numbers none c mid p

-- ---- the places that are returned

pub spelled_by : (bytes text numbers : List ℕ) → IsUtf8 text → IsSpelling bytes numbers → text ≡ bytes → chars text ≡ numbers
spelled_by bytes text numbers u s e = encodes_same (chars text) numbers (encodes-chars text u ∙ e ∙ sym s.spelled)

-- what follows decoded characters, and what comes before
record Split (all after : List ℕ) : Type 0 where
  pub before : List ℕ
  pub is : all ≡ before ++ after

begins_split : {all : List ℕ} {c : Character} {after : List ℕ} → Begins all c after → Split all after
begins_split b = let p = parts b in record { before = p.front; is = p.is }

decodes_split : {all : List ℕ} {cs : List Character} {after : List ℕ} → Decodes all cs after → Split all after
decodes_split (here e) = record { before = []; is = e }
decodes_split (next_is {rest = after} p q e) =
    let b = begins_split p in
    let d = decodes_split q in
    record { before = b.before ++ d.before; is = b.is ∙ ap (λ (x : List ℕ). b.before ++ x) d.is ∙ sym (append_assoc b.before d.before after) }

-- this is the place in a text wherever `left` bytes are after it
abbrev IsPlaceIn : List ℕ → ℕ → FilePlace → Type 0
IsPlaceIn text left p = (before after : List ℕ) → chars text ≡ before ++ after → length (encode_utf8_all after) ≡ left → IsPlaceBetween before after p

pub record IsAtFront (bytes : List ℕ) (offset : ℕ) (p : FilePlace) : Type 0 where
  pub front : List ℕ
  pub spelling : IsSpelling (take offset bytes) front
  pub is : IsPlaceBetween front [] p
  pub offset_is : p.offset ≡ offset

-- after the longest front that is UTF-8
pub at_bad_byte : (bytes text : List ℕ) (offset left : ℕ) (p : FilePlace) → IsUtf8 text → (¬ (IsUtf8 bytes) → IsValidUpTo bytes offset → text ≡ take offset bytes)
    → left ≡ length text - offset → IsPlaceIn text left p → BreaksUtf8At bytes offset → IsAtFront bytes offset p
at_bad_byte bytes text offset left p u front left-is places broken =
    let e = front broken.0 broken.1 in
    let size : length text ≡ offset = ap length e ∙ length-take-le offset bytes (omega (arith, broken.1.short)) in
    let is = places (chars text) [] (sym (append-nil (chars text))) (omega (arith, left-is, size)) in
    record {
      front = chars text;
      spelling = subst (λ (x : List ℕ). IsSpelling x (chars text)) e (text_spelling text u);
      is = is;
      offset_is = is.offset_is ∙ ap length (encodes-chars text u) ∙ size;
    }

-- after the characters of a front
pub behind : (bytes text numbers rest : List ℕ) (front : List Character) (left : ℕ) (p : FilePlace) → IsUtf8 text → (IsUtf8 bytes → text ≡ bytes)
    → IsPlaceIn text left p → IsSpelling bytes numbers → Decodes numbers front rest → length (encode_utf8_all rest) ≡ left → IsPlaceBehind bytes front p
behind bytes text numbers rest front left p u whole places s d size =
    let k = decodes_split d in
    let e = spelled_by bytes text numbers u s (whole (spelling_utf8 bytes numbers s)) in
    record {
      before = k.before;
      after = rest;
      spelling = subst (IsSpelling bytes) k.is s;
      decoded = subst (λ (x : List ℕ). Decodes x front rest) k.is d;
      is = places k.before rest (e ∙ k.is) size;
    }

pub record IsAtCharacter (bytes : List ℕ) (offset : ℕ) (p : FilePlace) : Type 0 where
  pub front : List Character
  pub is : IsPlaceBehind bytes front p
  pub offset_is : p.offset ≡ offset

pub at_bad_character : (bytes text : List ℕ) (offset left : ℕ) (p : FilePlace) → IsUtf8 text → (IsUtf8 bytes → text ≡ bytes)
    → left ≡ length text - offset → IsPlaceIn text left p → BreaksCharactersAt bytes offset → IsAtCharacter bytes offset p
unfolding behind
at_bad_character bytes text offset left p u whole left-is places broken =
    let same : length text ≡ length bytes = ap length (whole (spelling_utf8 bytes broken.numbers broken.spelling)) in
    let is = behind bytes text broken.numbers broken.rest broken.front left p u whole places broken.spelling broken.decoded
    (omega (arith, left-is, same, broken.offset_is)) in
    record {
      front = broken.front;
      is = is;
      offset_is = at_offset bytes broken.numbers broken.rest is.before is.after offset p is.is broken.offset_is is.spelling refl;
    }
  where
    at_offset : (bytes numbers rest before after : List ℕ) (offset : ℕ) (p : FilePlace) → IsPlaceBetween before after p
        → offset + length (encode_utf8_all rest) ≡ length bytes → IsSpelling bytes (before ++ after) → after ≡ rest → p.offset ≡ offset
    at_offset bytes numbers rest before after offset p is sum s e = omega (
      arith,
      is.offset_is,
      sum,
      ap length s.spelled,
      ap length (encodes-append before after),
      length-append (encode_utf8_all before) (encode_utf8_all after),
      ap (λ (x : List ℕ). length (encode_utf8_all x)) e,
    )
