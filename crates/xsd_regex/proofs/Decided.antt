-- The functions that read and match say what the relations say.
use Rattle.std.proofs.Common.{◌≡◌, ◌∙◌, ◌≤◌, ℕ, zero, suc, List, [], ◌∷◌, length, Option, Some, None, refl, sym, ap, subst, arith}
use Rattle.std.specs.Option.{option_map, option_and_then}
use Rattle.rng_model.specs.regexes.Expressions.{Regex}
use Rattle.rng_model.specs.regexes.Symbols.{Symbol, AreSymbols, no_symbols}
use Rattle.rng_model.specs.regexes.ExpressionGrammar.{IsRegex}
use Rattle.rng_model.specs.regexes.plain.Spelling.{next_symbol}
use Rattle.rng_model.specs.regexes.plain.Machine.{run, start}
use Rattle.rng_model.specs.regexes.plain.Decided.{symbols_in, regex_of, is_match, RegexesAreDecided, MatchesAreDecided}
use Rattle.xsd_regex.proofs.Runs.{matched_by_run}
use Rattle.xsd_regex.proofs.Spelled.{symbol_in_front, symbols_behind, symbol_shortens, no_symbols_of, symbols_same}
use Rattle.xsd_regex.proofs.Regexes.{read_by, read_is}

-- ---- symbols

symbols_are : (n : ℕ) (s : List ℕ) (us : List Symbol) → symbols_in n s ≡ Some us → AreSymbols s us
unfolding symbols_in
symbols_are n [] us e = subst (AreSymbols []) (some_same e) no_symbols where
  some_same : {vs : List Symbol} → Some [] ≡ Some vs → [] ≡ vs
  some_same p = cc
symbols_are zero (c ∷ s) us e = cc
symbols_are (suc n) (c ∷ s) us e = first (λ after vs q. symbols_are n after vs q) (next_symbol (c ∷ s)) refl e where
  Before : Type 0
  Before = (after : List ℕ) (vs : List Symbol) → symbols_in n after ≡ Some vs → AreSymbols after vs

  rest : Before → (u : Symbol) (after : List ℕ) (o : Option (List Symbol)) → next_symbol (c ∷ s) ≡ Some (u, after) → symbols_in n after ≡ o
      → option_map (λ vs. u ∷ vs) o ≡ Some us → AreSymbols (c ∷ s) us
  rest before u after None p q h = cc
  rest before u after (Some vs) p q h =
      let same : u ∷ vs ≡ us = cc in subst (AreSymbols (c ∷ s)) same (symbol_in_front (c ∷ s) u after vs p (before after vs q))

  first : Before → (o : Option (Symbol × List ℕ)) → next_symbol (c ∷ s) ≡ o
      → option_and_then (λ p. option_map (λ vs. p.0 ∷ vs) (symbols_in n p.1)) o ≡ Some us → AreSymbols (c ∷ s) us
  first before None p h = cc
  first before (Some (u, after)) p h = rest before u after (symbols_in n after) p refl h

are_symbols : (n : ℕ) (s : List ℕ) (us : List Symbol) → length s ≤ n → AreSymbols s us → symbols_in n s ≡ Some us
unfolding symbols_in
are_symbols n [] us less a = empty us a where
  empty : (vs : List Symbol) → AreSymbols [] vs → Some [] ≡ Some vs
  empty vs a = ap Some (symbols_same [] [] vs no_symbols a)
are_symbols zero (c ∷ s) us less a = absurd (omega (arith, less))
are_symbols (suc n) (c ∷ s) us less a = first (λ after vs l b. are_symbols n after vs l b) (next_symbol (c ∷ s)) refl where
  Before : Type 0
  Before = (after : List ℕ) (vs : List Symbol) → length after ≤ n → AreSymbols after vs → symbols_in n after ≡ Some vs

  first : Before → (o : Option (Symbol × List ℕ)) → next_symbol (c ∷ s) ≡ o
      → option_and_then (λ p. option_map (λ vs. p.0 ∷ vs) (symbols_in n p.1)) o ≡ Some us
  first before None p = absurd (no_symbols_of (c ∷ s) (λ n. cc) p us a)
  first before (Some (u, after)) p =
      let b = symbols_behind (c ∷ s) u after us p a in
      let shorter = symbol_shortens (c ∷ s) u after p in
      ap (λ o. option_map (λ vs. u ∷ vs) o) (before after b.more (omega (arith, less, shorter)) b.are) ∙ ap Some (sym b.parts)

-- ---- expressions

regex_if : (text : List ℕ) (r : Regex) → regex_of text ≡ Some r → IsRegex text r
unfolding regex_of
regex_if text r e = by (symbols_in (length text) text) refl e where
  by : (o : Option (List Symbol)) → symbols_in (length text) text ≡ o → option_and_then (run start) o ≡ Some r → IsRegex text r
  by None p h = cc
  by (Some us) p h = read_is text us r (symbols_are (length text) text us p) (sym h)

regex_then : (text : List ℕ) (r : Regex) → IsRegex text r → regex_of text ≡ Some r
unfolding regex_of
regex_then text r is =
    ap (option_and_then (run start)) (are_symbols (length text) text is.symbols (omega arith) is.written) ∙ read_by text is.symbols r is.written is

pub regexes_are_decided : RegexesAreDecided
regexes_are_decided text r = (regex_if text r, regex_then text r)

-- ---- matches

pub matches_are_decided : MatchesAreDecided
unfolding is_match
matches_are_decided r s = let m = matched_by_run r s in (m.1, m.0)
