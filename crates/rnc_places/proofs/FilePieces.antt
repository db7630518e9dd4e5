-- The characters before a token, and before a place at which nothing begins.
use Rattle.std.proofs.Common.{◌≡◌, ℕ, zero, suc, ◌+◌, List, [], ◌∷◌, ◌++◌, length, Some, refl, sym, ap, ◌∙◌, arith}
use Rattle.std.specs.List.{slice_get}
use Rattle.std.proofs.lemmas.List.{length-append, append_assoc, map-append}
use Rattle.std.proofs.lemmas.Option.{none-some}
use Rattle.std.specs.Str.{encode_utf8_all}
use Rattle.std.proofs.lemmas.Str.{encodes-append}
use Rattle.rnc_model.specs.characters.Decoding.{bytes_of, byte_length, number_of, numbers_of, Decodes, here, next_is}
use Rattle.rnc_model.specs.declared.character.Character.{Character}
use Rattle.rnc_model.specs.tokens.Cut as cut
use Rattle.rnc_model.specs.tokens.Cut.{Cuts, Token, tokens_at, HasTokens, BreaksTokensAt}
use Rattle.rnc_model.specs.tokens.Tokens.{Piece, gap, token, characters_in}

pub length_of_both : (xs ys : List Character) → byte_length (xs ++ ys) ≡ byte_length xs + byte_length ys
length_of_both xs ys =
    ap length (ap encode_utf8_all (map-append number_of xs ys) ∙ encodes-append (numbers_of xs) (numbers_of ys)) ∙ length-append (bytes_of xs) (bytes_of ys)

-- the characters before a place, and those after it
pub record Front (cs : List Character) (size : ℕ) : Type 0 where
  pub front : List Character
  pub rest : List Character
  pub is : cs ≡ front ++ rest
  pub size_is : byte_length front ≡ size

-- the characters before what is left of a cut
pub before_rest : {cs : List Character} {ps : List Piece} {rest : List Character} → Cuts cs ps rest → (front : List Character) × (cs ≡ front ++ rest)
before_rest (cut.here e) = ([], e)
before_rest (cut.next_is {rest = rest} {piece = p} n c e) =
    let f = before_rest c in
    (characters_in p ++ f.0, n.parts ∙ ap (λ (x : List Character). characters_in p ++ x) f.1 ∙ sym (append_assoc (characters_in p) f.0 rest))

-- before a place at which nothing begins
pub stuck_front : (cs : List Character) (offset : ℕ) → BreaksTokensAt cs offset → Front cs offset
stuck_front cs offset b =
    let f = before_rest b.cut in
    record {
      front = f.0;
      rest = b.rest;
      is = f.1;
      size_is = omega (arith, b.offset_is, ap byte_length f.1, length_of_both f.0 b.rest);
    }

-- before a token, if the first piece starts at an offset
record Starts (start : ℕ) (cs : List Character) (t : Token) : Type 0 where
  pub front : List Character
  pub rest : List Character
  pub is : cs ≡ front ++ rest
  pub size_is : start + byte_length front ≡ t.starts

behind_piece : (start : ℕ) (cs all after : List Character) (t : Token) → cs ≡ all ++ after → Starts (start + byte_length all) after t → Starts start cs t
behind_piece start cs all after t e s = record {
  front = all ++ s.front;
  rest = s.rest;
  is = e ∙ ap (λ (x : List Character). all ++ x) s.is ∙ sym (append_assoc all s.front s.rest);
  size_is = omega (arith, s.size_is, length_of_both all s.front);
}

starts : (start : ℕ) {cs : List Character} {ps : List Piece} {rest : List Character} → Cuts cs ps rest → (i : ℕ) (t : Token)
    → slice_get (tokens_at start ps) i ≡ Some t → Starts start cs t
starts start (cut.here e) i t is = absurd (none-some _ is)
starts start (cut.next_is {cs} {all = ps} {piece = p} {after} {pieces = qs} n c e) i t is =
    go (λ s j is. starts s c j t is) p n.parts i (ap (λ (x : List Piece). slice_get (tokens_at start x) i) (sym e) ∙ is)
  where
    go : ((s j : ℕ) → slice_get (tokens_at s qs) j ≡ Some t → Starts s after t) → (p : Piece) → cs ≡ characters_in p ++ after → (i : ℕ) → slice_get (tokens_at start (p ∷ qs)) i ≡ Some t → Starts start cs t
    go more (gap all) parts i is = behind_piece start cs all after t parts (more (start + byte_length all) i is)
    go more (token kind says all) parts zero is = record { front = []; rest = cs; is = refl; size_is = starts_here is }
      where
        starts_here : slice_get (tokens_at start (token kind says all ∷ qs)) 0 ≡ Some t → start + 0 ≡ t.starts
        starts_here is = let e : (record { kind = kind; text = bytes_of says; starts = start; ends = start + byte_length all }) ≡ t = cc in
            omega (arith, ap (λ (x : Token). x.starts) e)
    go more (token kind says all) parts (suc i) is = behind_piece start cs all after t parts (more (start + byte_length all) i is)

pub token_front : (cs : List Character) (ts : List Token) (i : ℕ) (t : Token) → HasTokens cs ts → slice_get ts i ≡ Some t → Front cs t.starts
token_front cs ts i t h is =
    let s = starts 0 h.cut i t (ap (λ (x : List Token). slice_get x i) (sym h.are) ∙ is) in
    record { front = s.front; rest = s.rest; is = s.is; size_is = omega (arith, s.size_is) }

-- the first of the decoded characters are decoded from the first numbers
pub decodes_front : {ns : List ℕ} {cs : List Character} {end : List ℕ} → Decodes ns cs end → (front rest : List Character) → cs ≡ front ++ rest
    → (mid : List ℕ) × Decodes ns front mid
decodes_front {ns} d [] rest e = (ns, here refl)
decodes_front (here e) (c ∷ front) rest f = absurd (cc)
decodes_front (next_is {c = d} {cs = cs} p q e) (c ∷ front) rest f =
    let same : d ≡ c = (let g : d ∷ cs ≡ c ∷ (front ++ rest) = sym e ∙ f in cc) in
    let tail : cs ≡ front ++ rest = (let g : d ∷ cs ≡ c ∷ (front ++ rest) = sym e ∙ f in cc) in
    let m = decodes_front q front rest tail in
    (m.0, next_is p m.1 (ap (λ (x : Character). x ∷ front) (sym same)))
