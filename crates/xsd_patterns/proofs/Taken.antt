-- Which expressions are taken.
use Rattle.std.proofs.Common.{◌≡◌, ◌∙◌, ◌↔◌, ◌<◌, ◌≤◌, ℕ, List, Bool, true, false, Option, Some, None, MatchOption, nat_le, refl, sym, ap, subst, tests, arith}
use Rattle.std.specs.Option.{option_and_then}
use Rattle.std.specs.Str.{chars}
use Rattle.rng_model.specs.regexes.Expressions.{Regex, Denotes}
use Rattle.rng_model.specs.regexes.ExpressionGrammar.{IsRegex}
use Rattle.xsd_regex.specs.views.Readings.{IsNoRegex}
use Rattle.rng_model.specs.regexes.Sizes.{size, most_size}
use Rattle.rng_model.specs.regexes.plain.Decided.{regex_of, is_match}
use Rattle.rng_model.specs.regexes.Patterns.{if_small, pattern_of}
use Rattle.xsd_regex.proofs.Decided.{regexes_are_decided, matches_are_decided}
use Rattle.xsd_patterns.specs.Facet.{is_matched, is_match_of}

-- a text that is no expression
pub no_expression : (s : List ℕ) → IsNoRegex (chars s) → regex_of (chars s) ≡ None
no_expression s is_none = by (regex_of (chars s)) refl where
  by : (o : Option Regex) → regex_of (chars s) ≡ o → o ≡ None
  by None e = refl
  by (Some r) e = absurd (is_none r ((regexes_are_decided (chars s) r).0 e))

pub none_taken : (s : List ℕ) → regex_of (chars s) ≡ None → pattern_of s ≡ None
none_taken s is_none = ap (option_and_then if_small) is_none

large : (r : Regex) → most_size < size r → if_small r ≡ None
large r more = let fails : nat_le (size r) most_size ≡ false = search (tests, arith) in rw fails refl

pub large_taken : (s : List ℕ) (r : Regex) → regex_of (chars s) ≡ Some r → most_size < size r → pattern_of s ≡ None
large_taken s r is more = ap (option_and_then if_small) is ∙ large r more

small : (r : Regex) → size r ≤ most_size → if_small r ≡ Some r
small r less = let passes : nat_le (size r) most_size ≡ true = search (tests, arith) in rw passes refl

-- what is said of the positions of an expression
module _ (s : List ℕ) (r : Regex) (is : IsRegex (chars s) r) {X : Type 0} (Are : X → Type 0) (o : Option X)
    (made : MatchOption o (most_size < size r) (λ x. (size r ≤ most_size) × Are x)) where
  read : pattern_of s ≡ if_small r
  read = ap (option_and_then if_small) ((regexes_are_decided (chars s) r).1 is)

  pub too_large : o ≡ None → (q : Regex) × (regex_of (chars s) ≡ Some q) × (most_size < size q)
  too_large e = (r, (regexes_are_decided (chars s) r).1 is, by o e made) where
    by : (p : Option X) → p ≡ None → MatchOption p (most_size < size r) (λ x. (size r ≤ most_size) × Are x) → most_size < size r
    by None e m = m
    by (Some x) e m = absurd (cc)

  found : (x : X) → o ≡ Some x → (size r ≤ most_size) × Are x
  found x e = subst (λ p. MatchOption p (most_size < size r) (λ x. (size r ≤ most_size) × Are x)) e made

  pub is_taken : (x : X) → o ≡ Some x → pattern_of s ≡ Some r
  is_taken x e = read ∙ small r (found x e).0

  pub they_are : (x : X) → o ≡ Some x → Are x
  they_are x e = (found x e).1

same_truth : (a b : Bool) → ((a ≡ true) ↔ (b ≡ true)) → a ≡ b
same_truth true b h = sym (h.0 refl)
same_truth false true h = h.1 refl
same_truth false false h = refl

-- what an expression that is taken matches
pub matched_by : (text : List ℕ) (r : Regex) (s : List ℕ) (b : Bool) → pattern_of text ≡ Some r → ((b ≡ true) ↔ Denotes r (chars s))
    → b ≡ is_matched text s
matched_by text r s b taken h =
    let m = matches_are_decided r (chars s) in
    same_truth b (is_match r (chars s)) (λ e. m.1 (h.0 e), λ e. h.1 (m.0 e)) ∙ ap (λ o. is_match_of o (chars s)) (sym taken)
