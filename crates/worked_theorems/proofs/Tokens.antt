-- The tokens of a schema file (RELAX NG Compact Syntax, "Lexical structure"): each is the longest that begins.
use Rattle.std.proofs.Common.{◌≡◌, ℕ, suc, ◌+◌, List, [], ◌∷◌, ◌++◌, length, map, codes, refl, sym, ap, subst, ◌∙◌}
use Rattle.std.proofs.Common.{arith, true, false, true≢false, Some, None, Option}
use Rattle.std.proofs.lemmas.List.{length-append, append-nil, append_assoc}
use Rattle.rng_model.specs.names.Names.{is_ncname}
use Rattle.rnc_model.specs.characters.Decoding.{numbers_of}
use Rattle.rnc_model.specs.declared.character.Character.{Character}
use Rattle.rnc_model.specs.declared.character.Character.TheVariants.{LineEnd, Ordinary}
use Rattle.rnc_model.specs.declared.token.Keyword.TheVariants as keywords
use Rattle.rnc_model.specs.declared.token.Sign.{Sign}
use Rattle.rnc_model.specs.declared.token.Sign.TheVariants as signs
use Rattle.rnc_model.specs.declared.token.TokenKind.TheVariants as kinds
use Rattle.rnc_model.specs.tokens.Tokens.{Piece, gap, token, characters_in, IsGapOrToken, keyword_of, sign_of}
use Rattle.rnc_model.specs.tokens.Tokens as pieces
use Rattle.rnc_model.specs.tokens.Cut.{IsNext, NothingBegins, Cuts, here, next_is, HasTokens, BreaksTokensAt}

abbrev characters : List ℕ → List Character
characters cs = map (λ c. Ordinary c) cs

-- a piece that is all of the characters is the longest
all_of : (cs : List Character) (piece : Piece) → IsGapOrToken piece → characters_in piece ≡ cs → IsNext cs piece []
all_of cs piece is e = record {
  is = is;
  parts = sym (append-nil (characters_in piece) ∙ e);
  longest = λ other after q parts.
      let n : length cs ≡ length (characters_in other) + length after = ap length parts ∙ length-append (characters_in other) after in
      let m : length (characters_in piece) ≡ length cs = ap length e in
      omega (arith, n, m);
}

one_piece : (cs : List Character) (piece : Piece) → IsGapOrToken piece → characters_in piece ≡ cs → Cuts cs (piece ∷ []) []
one_piece cs piece is e = next_is (all_of cs piece is e) (here refl) refl

-- `|=` is one token ("Lexical structure")
abbrev bar_equal : List Character
bar_equal = characters (codes "|=")

is_bar_equal : IsGapOrToken (token (kinds.Sign signs.BarEqual) bar_equal bar_equal)
unfolding sign_of
is_bar_equal = pieces.sign refl

one_sign : HasTokens bar_equal (record { kind = kinds.Sign signs.BarEqual; text = codes "|="; starts = 0; ends = 2 } ∷ [])
unfolding lib.Utf8.encode
one_sign = record {
  pieces = token (kinds.Sign signs.BarEqual) bar_equal bar_equal ∷ [];
  cut = one_piece bar_equal (token (kinds.Sign signs.BarEqual) bar_equal bar_equal) is_bar_equal refl;
  are = refl;
}

-- so it is not cut into `|` and `=`
abbrev sign_piece : Sign → List ℕ → Piece
sign_piece s text = token (kinds.Sign s) (characters text) (characters text)

not_two_signs : (rest : List Character) → ¬ (Cuts bar_equal (sign_piece signs.Bar (codes "|") ∷ sign_piece signs.Equal (codes "=") ∷ []) rest)
not_two_signs rest (next_is {piece = piece} {pieces = others} next more e) =
    let same : sign_piece signs.Bar (codes "|") ≡ piece = ap first_piece e in
    let n = next.longest (token (kinds.Sign signs.BarEqual) bar_equal bar_equal) [] is_bar_equal refl in
    let m : ◌≡◌ {A = ℕ} 1 (length (characters_in piece)) = ap (λ p. length (characters_in p)) same in
    omega (arith, n, m) where
      first_piece : List Piece → Piece
      first_piece [] = sign_piece signs.Bar (codes "|")
      first_piece (p ∷ ps) = p

-- `texts` is one identifier, although it begins with the keyword `text` ("Lexical structure")
abbrev texts : List Character
texts = characters (codes "texts")

one_word : HasTokens texts (record { kind = kinds.Identifier; text = codes "texts"; starts = 0; ends = 5 } ∷ [])
unfolding keyword_of lib.Utf8.encode
one_word = record {
  pieces = token kinds.Identifier texts texts ∷ [];
  cut = one_piece texts (token kinds.Identifier texts texts) (pieces.word {all = texts} refl refl) refl;
  are = refl;
}

-- `text` alone is the keyword
keyword_text : HasTokens (characters (codes "text")) (record { kind = kinds.Keyword keywords.Text; text = codes "text"; starts = 0; ends = 4 } ∷ [])
unfolding keyword_of lib.Utf8.encode
keyword_text = record {
  pieces = token (kinds.Keyword keywords.Text) (characters (codes "text")) (characters (codes "text")) ∷ [];
  cut = one_piece (characters (codes "text")) (token (kinds.Keyword keywords.Text) (characters (codes "text")) (characters (codes "text")))
      (pieces.word {all = characters (codes "text")} refl refl) refl;
  are = refl;
}

-- `##x` is a comment, as `#x` is, and has no tokens (docs/use/LANGUAGE.md, "Tokens")
comment_has_no_tokens : HasTokens (characters (codes "##x")) []
comment_has_no_tokens = record {
  pieces = gap (characters (codes "##x")) ∷ [];
  cut = one_piece (characters (codes "##x")) (gap (characters (codes "##x"))) (pieces.comment {cs = characters (codes "#x")} refl refl) refl;
  are = refl;
}

-- ---- `>>` is no token

abbrev two_angles : List Character
two_angles = characters (codes ">>")

abbrev first_number : List Character → ℕ
first_number [] = 0
first_number (LineEnd ∷ cs) = 10
first_number (Ordinary c ∷ cs) = c

-- no name begins so
no_name : (name more : List Character) → pieces.IsNcname name → ¬ (two_angles ≡ name ++ more)
no_name [] more n e = true≢false (sym n)
no_name (LineEnd ∷ cs) more n e = true≢false (sym n)
no_name (Ordinary c ∷ cs) more n e =
    let same : ◌≡◌ {A = ℕ} 62 c = ap first_number e in
    true≢false (sym (no_start c cs (sym same) n)) where
      no_start : (c : ℕ) (cs : List Character) → c ≡ 62 → is_ncname (numbers_of (Ordinary c ∷ cs)) ≡ true → false ≡ true
      no_start c cs e h = rw e at h

abbrev first_character : List Character → Character
first_character [] = LineEnd
first_character (c ∷ cs) = c

abbrev second_character : List Character → Character
second_character [] = LineEnd
second_character (c ∷ cs) = first_character cs

none_is_no_sign : (s : Sign) → ¬ (◌≡◌ {A = Option Sign} None (Some s))
none_is_no_sign s e = cc

no_sign : (all after : List Character) → two_angles ≡ all ++ after → (s : Sign) → ¬ (sign_of (numbers_of all) ≡ Some s)
unfolding sign_of
no_sign [] after e s f = none_is_no_sign s f
no_sign (c ∷ []) after e s f =
    let first : Ordinary 62 ≡ c = ap first_character e in
    none_is_no_sign s (subst (λ c. sign_of (numbers_of (c ∷ [])) ≡ Some s) (sym first) f)
no_sign (c ∷ d ∷ []) after e s f =
    let first : Ordinary 62 ≡ c = ap first_character e in
    let second : Ordinary 62 ≡ d = ap second_character e in
    none_is_no_sign s (subst (λ c. sign_of (numbers_of (c ∷ Ordinary 62 ∷ [])) ≡ Some s) (sym first)
    (subst (λ d. sign_of (numbers_of (c ∷ d ∷ [])) ≡ Some s) (sym second) f))
no_sign (c ∷ d ∷ x ∷ cs) after e s f =
    let n : 2 ≡ suc (suc (suc (length (cs ++ after)))) = ap length e in
    omega (arith, n)

nothing_begins : NothingBegins two_angles
nothing_begins other after (pieces.blank {c = LineEnd} b) e =
    let same : ◌≡◌ {A = ℕ} 62 10 = ap first_number e in
    omega (arith, same)
nothing_begins other after (pieces.blank {c = Ordinary c} b) e =
    let same : ◌≡◌ {A = ℕ} 62 c = ap first_number e in
    true≢false (sym (subst (λ c. pieces.is_blank_character (Ordinary c) ≡ true) (sym same) b))
nothing_begins other after (pieces.comment {all = all} l f) e =
    let same : ◌≡◌ {A = ℕ} 62 35 = ap first_number (e ∙ ap (λ cs. cs ++ after) f) in
    omega (arith, same)
nothing_begins other after (pieces.word {all = all} n k) e = no_name all after n e
nothing_begins other after (pieces.quoted_identifier n f) e =
    let same : ◌≡◌ {A = ℕ} 62 92 = ap first_number (e ∙ ap (λ cs. cs ++ after) f) in
    omega (arith, same)
nothing_begins other after (pieces.cname prefix local n m f) e =
    no_name prefix (Ordinary 58 ∷ local ++ after) n (e ∙ ap (λ cs. cs ++ after) f ∙ append_assoc prefix (Ordinary 58 ∷ local) after)
nothing_begins other after (pieces.nsname prefix n f) e =
    no_name prefix (Ordinary 58 ∷ Ordinary 42 ∷ after) n (e ∙ ap (λ cs. cs ++ after) f ∙ append_assoc prefix (Ordinary 58 ∷ Ordinary 42 ∷ []) after)
nothing_begins other after (pieces.segment quote q l f) e =
    let same : ◌≡◌ {A = ℕ} 62 quote = ap first_number (e ∙ ap (λ cs. cs ++ after) f) in
    true≢false (sym (subst (λ c. pieces.is_quote c ≡ true) (sym same) q))
nothing_begins other after (pieces.triple_segment quote q l f) e =
    let same : ◌≡◌ {A = ℕ} 62 quote = ap first_number (e ∙ ap (λ cs. cs ++ after) f) in
    true≢false (sym (subst (λ c. pieces.is_quote c ≡ true) (sym same) q))
nothing_begins other after (pieces.sign {all = all} {s = s} f) e = no_sign all after e s f

-- it breaks S5 at its first character (docs/use/LANGUAGE.md, S5)
angles_break : BreaksTokensAt two_angles 0
unfolding lib.Utf8.encode
angles_break = record {
  pieces = [];
  rest = two_angles;
  cut = here refl;
  some = omega arith;
  nothing = nothing_begins;
  offset_is = refl;
}
