-- The expressions and the other parameters, collected one after the other.
use Rattle.std.proofs.Common.{◌≡◌, ◌∙◌, ℕ, List, [], ◌∷◌, ◌++◌, Bool, true, false, not, ◌&&◌, Option, Some, None, MatchOption, refl, sym, ap, append-nil, append_assoc, ◌+◌, ◌<◌, map, length, drop, get_or}
use Rattle.std.proofs.Math.Bool.{and-false}
use Rattle.std.specs.Option.{option_map, option_and_then}
use Rattle.std.specs.List.{list_all}
use Rattle.std.proofs.lemmas.Bool.{and_parts, not-true}
use Rattle.std.proofs.lemmas.List.{drop_more}
use Rattle.std.specs.Str.{chars}
use Rattle.rng_model.specs.datatypes.Facets.{Parameter}
use Rattle.rng_model.specs.regexes.Expressions.{Regex}
use Rattle.rng_model.specs.regexes.plain.Decided.{is_match}
use Rattle.rng_model.specs.regexes.Patterns.{pattern_of, patterns_of, is_pattern, other_parameters}
use Rattle.xsd_patterns.specs.Facet.{IsTaken, expressions_of, is_matched, is_match_of, all_match}
use Rattle.xsd_patterns.specs.views.Compiled.{AreThoseOf}

abbrev Read : Type 0
Read = Option (List Regex)

-- what a view gives of the rest of a list
pub rest_with : {A B : Type 0} (view : A → B) (xs : List A) (i : ℕ) (x : A) → i < length xs → x ≡ get_or xs i x
    → map view (drop i xs) ≡ view x ∷ map view (drop (i + 1) xs)
rest_with view xs i x inside is = ap (map view) (drop_more xs i x inside ∙ ap (λ y. y ∷ drop (i + 1) xs) (sym is))

-- ---- lists of expressions, one behind the other

abbrev pub behind : List Regex → Read → Read
behind front o = option_map (λ rs. front ++ rs) o

behind_nothing : (o : Read) → behind [] o ≡ o
behind_nothing None = refl
behind_nothing (Some rs) = refl

abbrev joined : Read → Read → Read
joined None o = None
joined (Some front) o = behind front o

one_before : (r : Regex) (o p : Read) → option_map (λ rs. r ∷ rs) (joined o p) ≡ joined (option_map (λ rs. r ∷ rs) o) p
one_before r None p = refl
one_before r (Some front) None = refl
one_before r (Some front) (Some rs) = refl

expressions_joined : (ts us : List (List ℕ)) → expressions_of (ts ++ us) ≡ joined (expressions_of ts) (expressions_of us)
expressions_joined [] us = sym (behind_nothing (expressions_of us))
expressions_joined (t ∷ ts) us = by (pattern_of t) (expressions_joined ts us) where
  by : (o : Option Regex) → expressions_of (ts ++ us) ≡ joined (expressions_of ts) (expressions_of us)
      → option_and_then (λ r. option_map (λ rs. r ∷ rs) (expressions_of (ts ++ us))) o
      ≡ joined (option_and_then (λ r. option_map (λ rs. r ∷ rs) (expressions_of ts)) o) (expressions_of us)
  by None e = refl
  by (Some r) e = ap (option_map (λ rs. r ∷ rs)) e ∙ one_before r (expressions_of ts) (expressions_of us)

pub one_more : (ts : List (List ℕ)) (t : List ℕ) (front : List Regex) (r : Regex) → expressions_of ts ≡ Some front → pattern_of t ≡ Some r
    → expressions_of (ts ++ t ∷ []) ≡ Some (front ++ r ∷ [])
one_more ts t front r e f =
    expressions_joined ts (t ∷ []) ∙ ap (λ o. joined o (expressions_of (t ∷ []))) e
    ∙ ap (λ o. behind front (option_and_then (λ q. option_map (λ rs. q ∷ rs) (expressions_of [])) o)) f

behind_one : (front : List Regex) (r : Regex) (o : Read) → behind front (option_map (λ rs. r ∷ rs) o) ≡ behind (front ++ r ∷ []) o
behind_one front r None = refl
behind_one front r (Some rs) = ap Some (sym (append_assoc front (r ∷ []) rs))

-- ---- one expression

abbrev IsFound : Option (List ℕ) → List ℕ → Type 0
IsFound o s = MatchOption o (pattern_of s ≡ None) (λ p. (p ≡ s) × IsTaken p)

pub found_none : (o : Option (List ℕ)) (s t : List ℕ) → o ≡ None → s ≡ t → IsFound o s → pattern_of t ≡ None
found_none None s t e same found = ap pattern_of (sym same) ∙ found
found_none (Some p) s t e same found = cc

pub found_one : (o : Option (List ℕ)) (p s t : List ℕ) → o ≡ Some p → s ≡ t → IsFound o s → (p ≡ t) × (r : Regex) × (pattern_of t ≡ Some r)
found_one None p s t e same found = cc
found_one (Some q) p s t e same found =
    let here : p ≡ t = cc in (here, found.1.0, ap pattern_of (sym here) ∙ cc)

-- ---- the expressions of parameters, of which some are still to come

pub record ArePending (all rest : List Parameter) (texts : List (List ℕ)) : Type 0 where
  pub front : List Regex
  pub taken : expressions_of texts ≡ Some front
  pub written : patterns_of all ≡ behind front (patterns_of rest)

pub pending_all : (all : List Parameter) → ArePending all all []
pending_all all = record { front = []; taken = refl; written = sym (behind_nothing (patterns_of all)) }

written_other : (p : Parameter) (rest : List Parameter) → is_pattern p ≡ false → patterns_of (p ∷ rest) ≡ patterns_of rest
unfolding patterns_of
written_other p rest e = rw e refl

written_one : (p : Parameter) (rest : List Parameter) → is_pattern p ≡ true
    → patterns_of (p ∷ rest) ≡ option_and_then (λ r. option_map (λ rs. r ∷ rs) (patterns_of rest)) (pattern_of p.1)
unfolding patterns_of
written_one p rest e = rw e refl

pub pending_past : (all : List Parameter) (p : Parameter) (rest : List Parameter) (texts : List (List ℕ)) → is_pattern p ≡ false
    → ArePending all (p ∷ rest) texts → ArePending all rest texts
pending_past all p rest texts e a =
    record { front = a.front; taken = a.taken; written = a.written ∙ ap (behind a.front) (written_other p rest e) }

pub pending_with : (all : List Parameter) (p : Parameter) (rest : List Parameter) (texts : List (List ℕ)) (r : Regex) → is_pattern p ≡ true
    → pattern_of p.1 ≡ Some r → ArePending all (p ∷ rest) texts → ArePending all rest (texts ++ p.1 ∷ [])
pending_with all p rest texts r e f a = record {
  front = a.front ++ r ∷ [];
  taken = one_more texts p.1 a.front r a.taken f;
  written =
      a.written ∙ ap (behind a.front) (written_one p rest e ∙ ap (option_and_then (λ q. option_map (λ rs. q ∷ rs) (patterns_of rest))) f)
      ∙ behind_one a.front r (patterns_of rest);
}

pub none_written : (all : List Parameter) (p : Parameter) (rest : List Parameter) (texts : List (List ℕ)) → is_pattern p ≡ true
    → pattern_of p.1 ≡ None → ArePending all (p ∷ rest) texts → patterns_of all ≡ None
none_written all p rest texts e f a =
    a.written ∙ ap (behind a.front) (written_one p rest e ∙ ap (option_and_then (λ q. option_map (λ rs. q ∷ rs) (patterns_of rest))) f)

nothing_behind : (front : List Regex) → behind front (patterns_of []) ≡ Some front
unfolding patterns_of
nothing_behind front = ap Some (append-nil front)

pub none_pending : (all : List Parameter) (texts : List (List ℕ)) → ArePending all [] texts → AreThoseOf all texts
none_pending all texts a = record { expressions = a.front; written = a.written ∙ nothing_behind a.front; taken = a.taken }

-- ---- the other parameters

pub other_past : (p : Parameter) (rest : List Parameter) → is_pattern p ≡ true → other_parameters (p ∷ rest) ≡ other_parameters rest
other_past p rest e = rw e refl

pub other_with : (p : Parameter) (rest : List Parameter) → is_pattern p ≡ false → other_parameters (p ∷ rest) ≡ p ∷ other_parameters rest
other_with p rest e = rw e refl

-- parameters without a pattern
pub no_patterns : (ps : List Parameter) → list_all (λ p. not (is_pattern p)) ps ≡ true → other_parameters ps ≡ ps
no_patterns [] e = refl
no_patterns (p ∷ ps) e =
    let both = and_parts (not (is_pattern p)) (list_all (λ q. not (is_pattern q)) ps) e in
    other_with p ps (not-true (is_pattern p) both.0) ∙ ap (λ qs. p ∷ qs) (no_patterns ps both.1)

-- ---- what all match

pub all_matched : (treated : List ℕ → List ℕ) (ts : List (List ℕ)) (s : List ℕ)
    → list_all (λ t. is_matched t (treated s)) ts ≡ all_match (expressions_of ts) treated s
all_matched treated [] s = refl
all_matched treated (t ∷ ts) s = by (pattern_of t) (all_matched treated ts s) where
  both : (r : Regex) (b : Bool) (o : Read) → b ≡ all_match o treated s
      → (is_match r (chars (treated s)) && b) ≡ all_match (option_map (λ rs. r ∷ rs) o) treated s
  both r b None e = rw e (and-false (is_match r (chars (treated s))))
  both r b (Some rs) e = rw e refl

  by : (o : Option Regex) → list_all (λ u. is_matched u (treated s)) ts ≡ all_match (expressions_of ts) treated s
      → (is_match_of o (chars (treated s)) && list_all (λ u. is_matched u (treated s)) ts)
      ≡ all_match (option_and_then (λ r. option_map (λ rs. r ∷ rs) (expressions_of ts)) o) treated s
  by None e = refl
  by (Some r) e = both r (list_all (λ u. is_matched u (treated s)) ts) (expressions_of ts) e
