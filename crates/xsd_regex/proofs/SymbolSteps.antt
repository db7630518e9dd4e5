-- The symbol that begins a text, by the first character of the text and what is behind it.
use Rattle.std.proofs.Common.{◌≡◌, ◌≢◌, ◌∙◌, ℕ, ◌<◌, List, [], ◌∷◌, ◌++◌, take, drop, length, get_or, Bool, true, false, ◌==◌, Option, Some, None}
use Rattle.std.proofs.Common.{refl, sym, ap, subst, arith, one-add, ne_eqb, Bor}
use Rattle.std.specs.List.{list_all, prefix_len}
use Rattle.std.specs.Option.{option_map}
use Rattle.std.specs.Str.{chars, IsUtf8, NoCharPasses, NonePass}
use Rattle.std.proofs.Math.Seq.{take-append_seam, drop-append_seam}
use Rattle.std.proofs.lemmas.Bool.{and_parts}
use Rattle.std.proofs.lemmas.List.{length-append, drop_all}
use Rattle.std.proofs.lemmas.Str.{encode_ascii, chars-append, chars_from_encodes, chars_past_char, IsUtf8-take, IsUtf8-drop, IsCharBoundary-before_ascii}
use Rattle.std.proofs.lemmas.Str.Pattern.{IsSplitOnceResult, split_parts, drop_at_char}
use Rattle.rng_model.specs.regexes.Expressions.{Class}
use Rattle.rng_model.specs.regexes.Properties.{property_named}
use Rattle.rng_model.specs.regexes.Symbols.{Symbol, char, class, short_escape}
use Rattle.rng_model.specs.regexes.plain.Spelling.{first_of, negated_if, is_in_name, behind_name, named_symbol, property_symbol, escape_symbol, next_symbol}
use Rattle.xsd_regex.proofs.Spelled.{first_there, none_there, named_length}

abbrev First : ℕ → List ℕ → List ℕ → Type 0
First c t s = ◌≡◌ {A = Option (ℕ × List ℕ)} (Some (c, t)) (first_of s)

abbrev Ends : List ℕ → Type 0
Ends s = ◌≡◌ {A = Option (ℕ × List ℕ)} None (first_of s)

-- ---- a text

pub symbol_escape : (s t : List ℕ) (c : ℕ) → First c t s → c ≡ 0x5C → next_symbol s ≡ escape_symbol t
unfolding next_symbol
symbol_escape s t c f e = rw (first_there s t c f, e) refl

pub symbol_char : (s t : List ℕ) (c : ℕ) → First c t s → c ≢ 0x5C → next_symbol s ≡ Some (char c, t)
unfolding next_symbol
symbol_char s t c f n = rw (first_there s t c f, ne_eqb c 0x5C n) refl

pub no_symbol : (s : List ℕ) → Ends s → next_symbol s ≡ None
unfolding next_symbol
no_symbol s f = rw (none_there s f) refl

-- ---- behind `\`

pub escape_property : (s t : List ℕ) (c : ℕ) → First c t s → c ≡ 0x70 → escape_symbol s ≡ property_symbol false t
unfolding escape_symbol
escape_property s t c f e = rw (first_there s t c f, e) refl

pub escape_complement : (s t : List ℕ) (c : ℕ) → First c t s → c ≡ 0x50 → escape_symbol s ≡ property_symbol true t
unfolding escape_symbol
escape_complement s t c f e = rw (first_there s t c f, e) refl

pub escape_short : (s t : List ℕ) (c : ℕ) (o : Option Symbol) → First c t s → c ≢ 0x70 → c ≢ 0x50 → o ≡ short_escape c
    → escape_symbol s ≡ option_map (λ u. (u, t)) o
unfolding escape_symbol
escape_short s t c o f p q e = rw (first_there s t c f, ne_eqb c 0x70 p, ne_eqb c 0x50 q) (ap (option_map (λ u. (u, t))) (sym e))

pub no_escape : (s : List ℕ) → Ends s → escape_symbol s ≡ None
unfolding escape_symbol
no_escape s f = rw (none_there s f) refl

-- ---- behind `\p`

pub property_braced : (neg : Bool) (s t : List ℕ) (c : ℕ) → First c t s → c ≡ 0x7B → property_symbol neg s ≡ named_symbol neg t
unfolding property_symbol
property_braced neg s t c f e = rw (first_there s t c f, e) refl

pub property_unbraced : (neg : Bool) (s t : List ℕ) (c : ℕ) → First c t s → c ≢ 0x7B → property_symbol neg s ≡ None
unfolding property_symbol
property_unbraced neg s t c f n = rw (first_there s t c f, ne_eqb c 0x7B n) refl

pub no_property : (neg : Bool) (s : List ℕ) → Ends s → property_symbol neg s ≡ None
unfolding property_symbol
no_property neg s f = rw (none_there s f) refl

-- ---- behind `\p{`

name_of : (neg : Bool) (name rest : List ℕ) (o : Option Class) → list_all is_in_name name ≡ true → o ≡ property_named name
    → named_symbol neg (name ++ 0x7D ∷ rest) ≡ option_map {U = Symbol × List ℕ} (λ k. (class (negated_if neg k), rest)) o
unfolding named_symbol behind_name
name_of neg name rest o all e =
    rw (named_length name rest all, take-append_seam name (0x7D ∷ rest), drop-append_seam name (0x7D ∷ rest))
    (ap (option_map {U = Symbol × List ℕ} (λ k. (class (negated_if neg k), rest))) (sym e))

all_name : (s : List ℕ) → list_all is_in_name s ≡ true → prefix_len is_in_name s ≡ length s
all_name [] all = refl
all_name (c ∷ s) all = let both = and_parts (is_in_name c) (list_all is_in_name s) all in rw (both.0, all_name s both.1) (one-add (length s))

no_end : (neg : Bool) (s : List ℕ) → list_all is_in_name s ≡ true → named_symbol neg s ≡ None
unfolding named_symbol behind_name
no_end neg s all = let none : drop (prefix_len is_in_name s) s ≡ [] = drop_all _ s (omega (arith, all_name s all)) in rw none refl

none_passes : (cs : List ℕ) → NonePass (λ d. d == 0x7D) cs → list_all is_in_name cs ≡ true
none_passes [] n = refl
none_passes (c ∷ cs) n = rw n.0 (none_passes cs n.1)

char_none : (bs : List ℕ) → IsUtf8 bs → NoCharPasses (λ d. d == 0x7D) bs → list_all is_in_name (chars bs) ≡ true
char_none bs u n = subst (λ cs. list_all is_in_name cs ≡ true) (chars_from_encodes n.0 bs u n.1) (none_passes n.0 n.2)

record Split (text name rest : List ℕ) : Type 0 where
  pub parts : chars text ≡ chars name ++ 0x7D ∷ chars rest
  pub all : list_all is_in_name (chars name) ≡ true

split : (text : List ℕ) (name rest : Bor (List ℕ)) → IsUtf8 text → IsSplitOnceResult 0x7D text (Some (name, rest)) → Split text name.now rest.now
split text name rest u r =
    let small : 0x7D < 128 = omega arith in
    let whole : text ≡ name.now ++ 0x7D ∷ rest.now = (split_parts 0x7D text (Some (name, rest)) r small).0 in
    let within : r.0 < length text = omega (arith, r.6, ap length whole, length-append name.now (0x7D ∷ rest.now)) in
    let byte : get_or text r.0 0 < 128 = omega (arith, r.2.1.byte small) in
    let edge = IsCharBoundary-before_ascii text r.0 within byte in
    let front : take r.0 text ≡ name.now = sym r.3 in
    let back : drop r.0 text ≡ 0x7D ∷ rest.now = drop_at_char 0x7D text r.0 r.1 r.2.1 small ∙ ap (λ l. 0x7D ∷ l) (sym r.4) in
    let first : IsUtf8 name.now = subst IsUtf8 front (IsUtf8-take text r.0 u edge) in
    let second : IsUtf8 (0x7D ∷ rest.now) = subst IsUtf8 back (IsUtf8-drop text r.0 u edge) in
    record {
      parts = ap chars whole ∙ chars-append name.now (0x7D ∷ rest.now) first
          ∙ ap (λ l. chars name.now ++ l)
          (chars_past_char (0x7D ∷ rest.now) rest.now 0x7D second (ap (λ l. l ++ rest.now) (sym (encode_ascii 0x7D small))));
      all = char_none name.now first (subst (NoCharPasses (λ d. d == 0x7D)) front r.2.0);
    }

pub named_found : (neg : Bool) (text : List ℕ) (name rest : Bor (List ℕ)) (o : Option Class) → IsUtf8 text → IsSplitOnceResult 0x7D text (Some (name, rest))
    → o ≡ property_named (chars name.now)
    → option_map {U = Symbol × List ℕ} (λ k. (class (negated_if neg k), chars rest.now)) o ≡ named_symbol neg (chars text)
named_found neg text name rest o u r e =
    let s = split text name rest u r in
    sym (ap (named_symbol neg) s.parts ∙ name_of neg (chars name.now) (chars rest.now) o s.all e)

pub named_unended : (neg : Bool) (text : List ℕ) → IsUtf8 text → IsSplitOnceResult 0x7D text None → None ≡ named_symbol neg (chars text)
named_unended neg text u r = sym (no_end neg (chars text) (char_none text u r))
