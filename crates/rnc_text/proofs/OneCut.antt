-- A sequence of pieces: the cut is unique, and so is where it stops.
use Rattle.std.proofs.Common.{◌≡◌, ℕ, ◌+◌, ◌-◌, ◌<◌, ◌≤◌, ◌⊎◌, inl, inr, List, [], ◌∷◌, ◌++◌, length, Option, Some, None, Result, Ok, Err, refl, sym, ap, subst}
use Rattle.std.proofs.Common.{◌∙◌, arith}
use Rattle.std.specs.Prelude.{IfOk, IfErr}
use Rattle.std.proofs.lemmas.List.{length-append, append-nil, append_cancel_left}
use Rattle.std.proofs.lemmas.Option.{none-some, some_pair_parts}
use Rattle.std.specs.Char.{encode_utf8}
use Rattle.std.proofs.lemmas.Str.{length-le-encodes}
use Rattle.rnc_model.specs.declared.character.Character.{Character}
use Rattle.rnc_text.specs.declared.cursor.Cursor.{Cursor}
use Rattle.rnc_text.specs.declared.fault.TextFault.{TextFault}
use Rattle.rnc_text.specs.declared.fault.TextFault.TheVariants.{At, Memory}
use Rattle.rnc_text.specs.declared.scanning.Part.{Part}
use Rattle.rnc_model.specs.declared.token.TokenKind.{TokenKind}
use Rattle.rnc_model.specs.characters.Decoding.{number_of, bytes_of, byte_length}
use Rattle.rnc_model.specs.tokens.Tokens.{Piece, gap, token, characters_in, IsGapOrToken}
use Rattle.rnc_model.specs.tokens.Cut.{IsNext, NothingBegins, Cuts, here, next_is, Token, tokens_at, HasTokens, BreaksTokensAt}
use Rattle.rnc_model.specs.tokens.CutTokens.{AreInOrder}
use Rattle.rnc_text.specs.views.Answers.{GivesOk, GivesFault, IfBroken}
use Rattle.rnc_text.specs.plain.CutSteps.{Found, piece_of}
use Rattle.rnc_text.specs.plain.Cursors.{remaining, FindsPart, said, told}
use Rattle.rnc_text.proofs.Cursors.{bytes_append}
use Rattle.rnc_text.proofs.FoundPieces.{piece_front}
use Rattle.rnc_text.proofs.ScanResults.{piece_none}
use Rattle.rnc_text.proofs.LongestPiece.{Covered, covers}

-- ---- a piece takes something

piece_takes : (q : Piece) → IsGapOrToken q → 0 < length (characters_in q)
piece_takes q is =
    takes (characters_in q) refl (λ e. covered_none q (subst (Covered q) (piece_none [] refl) (covers is [] [] (sym (append-nil (characters_in q) ∙ e)))))
  where
    covered_none : (q : Piece) → Covered q None → ⊥
    covered_none q h = h

    takes : (cs : List Character) → characters_in q ≡ cs → (characters_in q ≡ [] → ⊥) → 0 < length (characters_in q)
    takes [] e none = absurd (none e)
    takes (c ∷ cs) e none = omega (arith, ap length e)

-- ---- what is next

longest_at : (cs : List Character) (p : Piece) (rest : List Character) → piece_of cs ≡ Some (p, rest) → (q : Piece) (after : List Character) → IsGapOrToken q
    → cs ≡ characters_in q ++ after → (length (characters_in q) < length (characters_in p)) ⊎ (q ≡ p)
longest_at cs p rest e q after is parts = subst (Covered q) e (covers is cs after parts)

no_longer : (p q : Piece) → (length (characters_in q) < length (characters_in p)) ⊎ (q ≡ p) → length (characters_in q) ≤ length (characters_in p)
no_longer p q (inl lt) = omega (arith, lt)
no_longer p q (inr e) = omega (arith, ap (λ (x : Piece). length (characters_in x)) e)

pub found_next : (cs : List Character) (p : Piece) (rest : List Character) → piece_of cs ≡ Some (p, rest) → IsNext cs p rest
found_next cs p rest e =
    let f = piece_front cs p rest e in
    record { is = f.is; parts = f.parts; longest = λ q after is parts. no_longer p q (longest_at cs p rest e q after is parts) }

pub none_begins : (cs : List Character) → piece_of cs ≡ None → NothingBegins cs
none_begins cs e = λ q after is parts. subst (Covered q) e (covers is cs after parts)

next_found : (cs : List Character) (p q : Piece) (rest after : List Character) → piece_of cs ≡ Some (p, rest) → IsNext cs q after → (q ≡ p) × (after ≡ rest)
next_found cs p q rest after e n = go (longest_at cs p rest e q after n.is n.parts)
  where
    go : (length (characters_in q) < length (characters_in p)) ⊎ (q ≡ p) → (q ≡ p) × (after ≡ rest)
    go (inl lt) = let f = piece_front cs p rest e in absurd (omega (arith, lt, n.longest p rest f.is f.parts))
    go (inr same) = (
      same,
      append_cancel_left (characters_in p) after rest
          (ap (λ (x : Piece). characters_in x ++ after) (sym same) ∙ sym n.parts ∙ (piece_front cs p rest e).parts),
    )

-- the next piece is unique
one_at : (cs : List Character) (o : Found) (p q : Piece) (rest after : List Character) → piece_of cs ≡ o → IsNext cs p rest → IsNext cs q after
    → (p ≡ q) × (rest ≡ after)
one_at cs None p q rest after e m n = absurd (none_begins cs e p rest m.is m.parts)
one_at cs (Some x) p q rest after e m n =
    let a = next_found cs x.0 p x.1 rest e m in
    let b = next_found cs x.0 q x.1 after e n in
    (a.0 ∙ sym b.0, a.1 ∙ sym b.1)

pub one_next : (cs : List Character) (p q : Piece) (rest after : List Character) → IsNext cs p rest → IsNext cs q after → (p ≡ q) × (rest ≡ after)
one_next cs p q rest after m n = one_at cs (piece_of cs) p q rest after refl m n

pub nothing_in_none : NothingBegins []
nothing_in_none = none_begins [] (piece_none [] refl)

-- ---- cuts

-- one more piece
pub cuts_then : {cs : List Character} {ps : List Piece} {mid : List Character} → Cuts cs ps mid → (p : Piece) (rest : List Character) → IsNext mid p rest
    → Cuts cs (ps ++ p ∷ []) rest
cuts_then (here {cs} {rest = mid} e) p rest n = subst (λ (cs : List Character). Cuts cs (p ∷ []) rest) (sym e) (next_is n (here refl) refl)
cuts_then (next_is {piece = q} {pieces = ps} m c e) p rest n = next_is m (cuts_then c p rest n) (ap (λ (x : List Piece). x ++ p ∷ []) e)

-- two cuts that go as far as possible are equal
pub one_cut : {cs : List Character} {ps : List Piece} {rest : List Character} → Cuts cs ps rest → NothingBegins rest → (qs : List Piece) (end : List Character)
    → Cuts cs qs end → NothingBegins end → (ps ≡ qs) × (rest ≡ end)
one_cut (here {cs} {rest} e) stops qs end (here f) ends = (refl, sym e ∙ f)
one_cut (here {cs} {rest} e) stops qs end (next_is {piece = q} {after = after} n c f) ends = absurd (stops q after n.is (sym e ∙ n.parts))
one_cut (next_is {piece = p} {after = after} n c e) stops qs end (here f) ends = absurd (ends p after n.is (sym f ∙ n.parts))
one_cut (next_is {cs} {piece = p} {after = after} {pieces = ps} n c e) stops qs end (next_is {piece = q} {after = after'} {pieces = qs'} m d f) ends =
    let same = one_next cs p q after after' n m in
    let more = one_cut c stops qs' end (subst (λ (x : List Character). Cuts x qs' end) (sym same.1) d) ends in
    (e ∙ ap (λ (x : Piece). x ∷ ps) same.0 ∙ ap (λ (x : List Piece). q ∷ x) more.0 ∙ sym f, more.1)

pub whole_cut : (cs : List Character) (ps qs : List Piece) → Cuts cs ps [] → Cuts cs qs [] → ps ≡ qs
whole_cut cs ps qs c d = (one_cut c nothing_in_none qs [] d nothing_in_none).0

tokens_one : (cs : List Character) (ts us : List Token) → HasTokens cs ts → HasTokens cs us → ts ≡ us
tokens_one cs ts us p q = p.are ∙ ap (tokens_at 0) (whole_cut cs p.pieces q.pieces p.cut q.cut) ∙ sym q.are

not_both : (cs : List Character) (ts : List Token) (offset : ℕ) → HasTokens cs ts → BreaksTokensAt cs offset → ⊥
not_both cs ts offset p q = absurd (omega (arith, q.some, ap length (one_cut p.cut nothing_in_none q.pieces q.rest q.cut q.nothing).1))

one_offset : (cs : List Character) (offset next : ℕ) → BreaksTokensAt cs offset → BreaksTokensAt cs next → offset ≡ next
one_offset cs offset next p q = omega (arith, p.offset_is, q.offset_is, ap byte_length (one_cut p.cut p.nothing q.pieces q.rest q.cut q.nothing).1)

-- the clause that the characters break
abbrev pub BreaksFive : List Character → ℕ → ℕ → Type 0
BreaksFive cs clause offset = (clause ≡ 5) × BreaksTokensAt cs offset

pub gives_tokens : {X : Type 0} (view : X → List Token) (cs : List Character) (r : Result X TextFault) → IfOk r (λ v. HasTokens cs (view v))
    → IfErr r (IfBroken (BreaksFive cs)) → (ts : List Token) → HasTokens cs ts → GivesOk view r ts
gives_tokens view cs (Ok v) found fault ts is = tokens_one cs (view v) ts found is
gives_tokens view cs (Err Memory) found fault ts is = tt
gives_tokens view cs (Err (At c p)) found fault ts is = not_both cs ts p is fault.1

pub gives_five : {X : Type 0} (view : X → List Token) (cs : List Character) (r : Result X TextFault) → IfOk r (λ v. HasTokens cs (view v))
    → IfErr r (IfBroken (BreaksFive cs)) → (offset : ℕ) → BreaksTokensAt cs offset → GivesFault r 5 offset
gives_five view cs (Ok v) found fault offset is = not_both cs (view v) offset found is
gives_five view cs (Err Memory) found fault offset is = tt
gives_five view cs (Err (At c p)) found fault offset is = (fault.0, one_offset cs p offset fault.1 is)

-- ---- the loop

abbrev pub ends_at : ℕ → List Piece → ℕ
ends_at start [] = start
ends_at start (p ∷ ps) = ends_at (start + byte_length (characters_in p)) ps

pub ends_push : (start : ℕ) (ps : List Piece) (p : Piece) → ends_at start (ps ++ p ∷ []) ≡ ends_at start ps + byte_length (characters_in p)
ends_push start [] p = refl
ends_push start (q ∷ ps) p = ends_push (start + byte_length (characters_in q)) ps p

tokens_push : (start : ℕ) (ps : List Piece) (p : Piece) → tokens_at start (ps ++ p ∷ []) ≡ tokens_at start ps ++ tokens_at (ends_at start ps) (p ∷ [])
tokens_push start [] p = refl
tokens_push start (gap all ∷ ps) p = tokens_push (start + byte_length all) ps p
tokens_push start (token kind says all ∷ ps) p =
    ap (λ (x : List Token). record { kind = kind; text = bytes_of says; starts = start; ends = start + byte_length all } ∷ x)
    (tokens_push (start + byte_length all) ps p)

-- the characters before a cursor are cut, and these are their tokens
pub record HasCut (cs : List Character) (tokens : List Token) (cursor : Cursor) : Type 0 where
  pub pieces : List Piece
  pub cut : Cuts cs pieces (remaining cursor)
  pub are : tokens ≡ tokens_at 0 pieces
  pub at : ends_at 0 pieces + length cursor.rest.now ≡ cursor.length
  pub left : byte_length (remaining cursor) ≡ length cursor.rest.now
  pub whole : cursor.length ≡ byte_length cs

pub cut_none : (cs : List Character) (cursor : Cursor) → remaining cursor ≡ cs → cursor.rest.now ≡ bytes_of cs → cursor.length ≡ length cursor.rest.now
    → HasCut cs [] cursor
cut_none cs cursor rest bytes whole = record {
  pieces = [];
  cut = here (sym rest);
  are = refl;
  at = omega (arith, whole);
  left = ap byte_length rest ∙ ap length (sym bytes);
  whole = whole ∙ ap length bytes;
}

some_bytes : (cs : List Character) → 0 < length cs → 0 < byte_length cs
some_bytes [] lt = absurd (omega (arith, lt))
some_bytes (c ∷ cs) lt =
    omega (arith, length-append (encode_utf8 (number_of c)) (bytes_of cs), length-le-encodes (number_of c ∷ []), length-append (encode_utf8 (number_of c)) [])

pub shorter_rest : (from to : Cursor) (part : Part) → FindsPart from part to (piece_of (remaining from)) → length to.rest.now < length from.rest.now
shorter_rest from to part f =
    let some = some_bytes (characters_in f.piece) (piece_takes f.piece (piece_front (remaining from) f.piece (remaining to) f.is).is) in
    omega (arith, ap length f.past.bytes, length-append (bytes_of (characters_in f.piece)) to.rest.now, some)

left_after : (from to : Cursor) (part : Part) → FindsPart from part to (piece_of (remaining from)) → byte_length (remaining from) ≡ length from.rest.now
    → byte_length (remaining to) ≡ length to.rest.now
left_after from to part f left =
    let all = characters_in f.piece in
    omega (
      arith,
      left,
      ap length f.past.bytes,
      length-append (bytes_of all) to.rest.now,
      ap byte_length f.past.rest,
      ap length (bytes_append all (remaining to)),
      length-append (bytes_of all) (bytes_of (remaining to)),
    )

pub cut_on : (cs : List Character) (ts us : List Token) (from to : Cursor) (part : Part) → HasCut cs ts from
    → (f : FindsPart from part to (piece_of (remaining from))) → us ≡ ts ++ tokens_at (from.length - length from.rest.now) (f.piece ∷ []) → HasCut cs us to
cut_on cs ts us from to part h f e =
    let all = characters_in f.piece in
    let start : from.length - length from.rest.now ≡ ends_at 0 h.pieces = omega (arith, h.at) in
    record {
      pieces = h.pieces ++ f.piece ∷ [];
      cut = cuts_then h.cut f.piece (remaining to) (found_next (remaining from) f.piece (remaining to) f.is);
      are = e ∙ ap (λ (x : List Token). x ++ tokens_at (from.length - length from.rest.now) (f.piece ∷ [])) h.are
          ∙ ap (λ (n : ℕ). tokens_at 0 h.pieces ++ tokens_at n (f.piece ∷ [])) start ∙ sym (tokens_push 0 h.pieces f.piece);
      at = omega (arith, h.at, f.past.whole, ends_push 0 h.pieces f.piece, ap length f.past.bytes, length-append (bytes_of all) to.rest.now);
      left = left_after from to part f h.left;
      whole = f.past.whole ∙ h.whole;
    }

-- a gap adds no token, and a token adds itself
gap_gives : (p : Piece) (start : ℕ) → None ≡ said p → tokens_at start (p ∷ []) ≡ []
gap_gives (gap all) start e = refl
gap_gives (token kind says all) start e = absurd (none-some _ e)

token_gives : (p : Piece) (start : ℕ) (kind : TokenKind) (text : List ℕ) → ◌≡◌ {A = Option (TokenKind × List ℕ)} (Some (kind, text)) (said p)
    → tokens_at start (p ∷ []) ≡ record { kind = kind; text = text; starts = start; ends = start + byte_length (characters_in p) } ∷ []
token_gives (gap all) start kind text e = absurd (none-some _ (sym e))
token_gives (token k says all) start kind text e = let s = some_pair_parts _ _ _ _ e in
    ap (λ (k : TokenKind). (record { kind = k; text = bytes_of says; starts = start; ends = start + byte_length all } ∷ [])) (sym s.0)
    ∙ ap (λ (t : List ℕ). (record { kind = kind; text = t; starts = start; ends = start + byte_length all } ∷ [])) (sym s.1)

pub cut_gap : (cs : List Character) (ts : List Token) (from to : Cursor) (part : Part) → HasCut cs ts from → told part ≡ None
    → FindsPart from part to (piece_of (remaining from)) → HasCut cs ts to
cut_gap cs ts from to part h none f =
    cut_on cs ts ts from to part h f (sym (ap (λ (x : List Token). ts ++ x) (gap_gives f.piece _ (sym none ∙ f.says)) ∙ append-nil ts))

pub cut_token : (cs : List Character) (ts us : List Token) (from to : Cursor) (part : Part) (kind : TokenKind) (text : List ℕ) (start end : ℕ)
    → HasCut cs ts from → told part ≡ Some (kind, text) → (f : FindsPart from part to (piece_of (remaining from))) → start ≡ from.length - length from.rest.now
    → end ≡ to.length - length to.rest.now → us ≡ ts ++ record { kind = kind; text = text; starts = start; ends = end } ∷ [] → HasCut cs us to
cut_token cs ts us from to part kind text start end h is f s e new =
    let all = characters_in f.piece in
    let end-is : end ≡ (from.length - length from.rest.now) + byte_length all =
    omega (arith, e, h.at, f.past.whole, ap length f.past.bytes, length-append (bytes_of all) to.rest.now) in
    cut_on cs ts us from to part h f (new
    ∙ ap (λ (n : ℕ). ts ++ record { kind = kind; text = text; starts = n; ends = end } ∷ []) s
    ∙ ap (λ (n : ℕ). ts ++ record { kind = kind; text = text; starts = from.length - length from.rest.now; ends = n } ∷ []) end-is
    ∙ ap (λ (x : List Token). ts ++ x) (sym (token_gives f.piece _ kind text (sym is ∙ f.says))))

pub cut_done : (cs : List Character) (ts : List Token) (cursor : Cursor) → HasCut cs ts cursor → length cursor.rest.now ≡ 0 → HasTokens cs ts
cut_done cs ts cursor h e =
    record { pieces = h.pieces; cut = subst (λ (x : List Character). Cuts cs h.pieces x) (no_characters (remaining cursor) (h.left ∙ e)) h.cut; are = h.are }
  where
    no_characters : (cs : List Character) → byte_length cs ≡ 0 → cs ≡ []
    no_characters [] e = refl
    no_characters (c ∷ cs) e = absurd (omega (arith, e, some_bytes (c ∷ cs) (omega arith)))

pub cut_stops : (cs : List Character) (ts : List Token) (cursor : Cursor) → HasCut cs ts cursor → 0 < length cursor.rest.now
    → piece_of (remaining cursor) ≡ None → BreaksTokensAt cs (cursor.length - length cursor.rest.now)
cut_stops cs ts cursor h lt none = record {
  pieces = h.pieces;
  rest = remaining cursor;
  cut = h.cut;
  some = some_characters (remaining cursor) (omega (arith, lt, h.left));
  nothing = none_begins (remaining cursor) none;
  offset_is = omega (arith, h.left, h.at, h.whole);
}
  where
    some_characters : (cs : List Character) → 0 < byte_length cs → 0 < length cs
    some_characters [] lt = absurd (omega (arith, lt))
    some_characters (c ∷ cs) lt = omega arith

-- ---- spans

order_piece : (p : Piece) (ps : List Piece) (start n : ℕ) → start ≤ n → IsGapOrToken p → ((start n : ℕ) → start ≤ n → AreInOrder start (tokens_at n ps))
    → AreInOrder start (tokens_at n (p ∷ ps))
order_piece (gap all) ps start n le is more = more start (n + byte_length all) (omega (arith, le))
order_piece (token kind says all) ps start n le is more =
    (le, omega (arith, some_bytes all (piece_takes (token kind says all) is)), more (n + byte_length all) (n + byte_length all) (omega arith))

order_of : {cs : List Character} {ps : List Piece} {rest : List Character} → Cuts cs ps rest → (start n : ℕ) → start ≤ n → AreInOrder start (tokens_at n ps)
order_of (here e) start n le = tt
order_of (next_is {piece = p} {pieces = ps} m c e) start n le =
    subst (λ (x : List Piece). AreInOrder start (tokens_at n x)) (sym e) (order_piece p ps start n le m.is (λ start n le. order_of c start n le))

pub in_order : {X : Type 0} (view : X → List Token) (cs : List Character) (r : Result X TextFault) → IfOk r (λ v. HasTokens cs (view v))
    → IfOk r (λ v. AreInOrder 0 (view v))
in_order view cs (Ok v) h = subst (AreInOrder 0) (sym h.are) (order_of h.cut 0 0 (omega arith))
in_order view cs (Err e) h = tt
