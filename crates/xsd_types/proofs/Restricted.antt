-- Datatypes with their patterns.
use Rattle.std.proofs.Common.{◌≡◌, ◌∙◌, ℕ, List, Bool, true, false, ◌&&◌, cond, Option, Some, None, is_some, refl, sym, ap}
use Rattle.std.specs.Option.{option_map, option_and_then}
use Rattle.std.proofs.Math.Bool.{and-true, and-false}
use Rattle.std.proofs.lemmas.Bool.{and_parts}
use Rattle.rng_model.specs.datatypes.Facets.{Parameter}
use Rattle.rng_model.specs.datatypes.Texts.{Value, are_equal}
use Rattle.rng_model.specs.datatypes.Datatypes.{Meaning, Maker, is_allowed_by, are_equal_by}
use Rattle.rng_model.specs.regexes.Expressions.{Regex}
use Rattle.rng_model.specs.regexes.Patterns.{patterns_of, other_parameters, matching, with_patterns}
use Rattle.xsd_automaton.specs.declared.white_space.WhiteSpace.{WhiteSpace}
use Rattle.xsd_automaton.specs.views.WhiteSpace.{treated}
use Rattle.xsd_patterns.specs.declared.patterns.Patterns.{Patterns}
use Rattle.xsd_patterns.specs.Facet.{all_match, expressions_of}
use Rattle.xsd_patterns.specs.views.Compiled.{AreCompiled, restricted}
use Rattle.xsd_types.proofs.Values.{no_right}

-- ---- texts

some_if : (b : Bool) (o : Option Value) → is_some (cond b o None) ≡ (is_some o && b)
some_if true o = sym (and-true (is_some o))
some_if false o = sym (and-false (is_some o))

equal_if : (b c : Bool) (o p : Option Value) → are_equal (cond b o None) (cond c p None) ≡ ((are_equal o p && b) && c)
equal_if true true o p = sym (and-true (are_equal o p && true) ∙ and-true (are_equal o p))
equal_if true false o p = no_right o ∙ sym (and-false (are_equal o p && true))
equal_if false c o p = sym (ap (λ e. e && c) (and-false (are_equal o p)))

module _ (p : Patterns) (meaning : Meaning) where
  abbrev matched : List ℕ → Bool
  matched s = all_match (expressions_of p.expressions.items) (treated p.white_space) s

  -- which texts are allowed, and which are equal
  pub allowed : (s : List ℕ) → is_allowed_by (restricted p meaning) s ≡ (is_allowed_by meaning s && matched s)
  allowed s = some_if (matched s) (meaning s)

  pub equal : (v w : List ℕ) → are_equal_by (restricted p meaning) v w ≡ ((are_equal_by meaning v w && matched v) && matched w)
  equal v w = equal_if (matched v) (matched w) (meaning v) (meaning w)

  -- texts that are equal are equal without the patterns
  pub equal_without : (v w : List ℕ) → are_equal_by (restricted p meaning) v w ≡ true → are_equal_by meaning v w ≡ true
  equal_without v w e =
      (and_parts (are_equal_by meaning v w) (matched v) (and_parts (are_equal_by meaning v w && matched v) (matched w) (sym (equal v w) ∙ e)).0).0

-- ---- parameters

-- what is made of the parameters, once it is made of those that are no patterns
pub made_with : (w : WhiteSpace) (make : Maker) (ps : List Parameter) (meaning : Meaning) (p : Patterns) → make (other_parameters ps) ≡ Some meaning
    → AreCompiled w ps (Some p) → with_patterns (treated w) make ps ≡ Some (restricted p meaning)
made_with w make ps meaning p made are =
    let rs = are.1.expressions in
    ap (option_and_then (λ rs. option_map (matching (treated w) rs) (make (other_parameters ps)))) are.1.written
    ∙ ap (option_map (matching (treated w) rs)) made
    ∙ ap (λ v. Some (λ s. cond (all_match (Some rs) (treated v) s) (meaning s) None)) (sym are.0)
    ∙ ap (λ o. Some (λ s. cond (all_match o (treated p.white_space) s) (meaning s) None)) (sym are.1.taken)

pub none_made : (w : WhiteSpace) (make : Maker) (ps : List Parameter) → make (other_parameters ps) ≡ None → with_patterns (treated w) make ps ≡ None
none_made w make ps none = by (patterns_of ps) where
  by : (o : Option (List Regex)) → option_and_then (λ rs. option_map (matching (treated w) rs) (make (other_parameters ps))) o ≡ None
  by None = refl
  by (Some rs) = ap (option_map (matching (treated w) rs)) none

pub none_compiled : (w : WhiteSpace) (make : Maker) (ps : List Parameter) → patterns_of ps ≡ None → with_patterns (treated w) make ps ≡ None
none_compiled w make ps none = ap (option_and_then (λ rs. option_map (matching (treated w) rs) (make (other_parameters ps)))) none
