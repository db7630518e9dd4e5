-- A run of states decides whether an expression matches a text.
use Rattle.std.proofs.Common.{◌≡◌, ◌↔◌, ℕ, List, [], ◌∷◌, true, sym, subst, ◌∙◌, inl, inr}
use Rattle.std.specs.List.{list_any}
use Rattle.std.proofs.lemmas.List.{append-nil}
use Rattle.rng_model.specs.regexes.Expressions.{Class, holds, Regex, Denotes}
use Rattle.rng_model.specs.regexes.plain.LinearForms.{RegexState, AcceptsState, nothing_left, next_is, OneOf, forms, ends}
use Rattle.rng_model.specs.regexes.plain.LinearForms.{rests_at, next_states, states_behind, AcceptsOne}
use Rattle.xsd_regex.proofs.OneOf.{in_first, in_second, of_both, kept_in, passed_in, kept_out, one_to, one_test_if, one_test_then}
use Rattle.xsd_regex.proofs.Nullable.{ends_if, ends_then}
use Rattle.xsd_regex.proofs.LinearForms.{state_forms_if, state_forms_then}

-- one of those behind the character, exactly if one of the classes has it
module _ {A : Type 0} (P : A → Type 0) (c : ℕ) where
  abbrev pub HasChar : (Class × A) → Type 0
  HasChar f = (holds f.0 c ≡ true) × P f.1

  pub behind_if : (fs : List (Class × A)) → OneOf HasChar fs → OneOf P (rests_at c fs)
  behind_if [] h = h
  behind_if (f ∷ fs) (inl h) = kept_in P (holds f.0 c) f.1 (rests_at c fs) h.0 h.1
  behind_if (f ∷ fs) (inr h) = passed_in P (holds f.0 c) f.1 (rests_at c fs) (behind_if fs h)

  pub behind_then : (fs : List (Class × A)) → OneOf P (rests_at c fs) → OneOf HasChar fs
  behind_then [] h = h
  behind_then (f ∷ fs) h = elim (kept_out P (holds f.0 c) f.1 (rests_at c fs) h) [ inl a ↦ inl a | inr b ↦ inr (behind_then fs b) ]

module _ (c : ℕ) (s : List ℕ) where
  pub step_if : (qs : List RegexState) → AcceptsOne qs (c ∷ s) → AcceptsOne (next_states qs c) s
  step_if [] h = h
  step_if (q ∷ qs) (inl a) = in_first (λ q. AcceptsState q s) (rests_at c (forms q)) (next_states qs c)
      (behind_if (λ q. AcceptsState q s) c (forms q) (state_forms_if c q s a))
  step_if (q ∷ qs) (inr h) = in_second (λ q. AcceptsState q s) (rests_at c (forms q)) (next_states qs c) (step_if qs h)

  pub step_then : (qs : List RegexState) → AcceptsOne (next_states qs c) s → AcceptsOne qs (c ∷ s)
  step_then [] h = h
  step_then (q ∷ qs) h =
      elim (of_both (λ q. AcceptsState q s) (rests_at c (forms q)) (next_states qs c) h)
      [ inl a ↦ inl (state_forms_then c q s (behind_then (λ q. AcceptsState q s) c (forms q) a)) | inr b ↦ inr (step_then qs b) ]

pub steps_if : (qs : List RegexState) (s : List ℕ) → AcceptsOne qs s → AcceptsOne (states_behind qs s) []
steps_if qs [] h = h
steps_if qs (c ∷ s) h = steps_if (next_states qs c) s (step_if c s qs h)

pub steps_then : (qs : List RegexState) (s : List ℕ) → AcceptsOne (states_behind qs s) [] → AcceptsOne qs s
steps_then qs [] h = h
steps_then qs (c ∷ s) h = step_then c s qs (steps_then (next_states qs c) s h)

-- one of the states accepts the text exactly if one of those behind it accepts the empty text
pub accepted_behind : (qs : List RegexState) (s : List ℕ) → AcceptsOne qs s ↔ AcceptsOne (states_behind qs s) []
accepted_behind qs s = (steps_if qs s, steps_then qs s)

pub one_ends_if : (qs : List RegexState) → AcceptsOne qs [] → list_any ends qs ≡ true
one_ends_if qs h = one_test_if ends qs (one_to (λ q. AcceptsState q []) (λ q. ends q ≡ true) qs ends_if h)

pub one_ends_then : (qs : List RegexState) → list_any ends qs ≡ true → AcceptsOne qs []
one_ends_then qs e = one_to (λ q. ends q ≡ true) (λ q. AcceptsState q []) qs ends_then (one_test_then ends qs e)

-- ---- an expression

pub alone_if : (r : Regex) (s : List ℕ) → Denotes r s → AcceptsState (r ∷ []) s
alone_if r s m = next_is m nothing_left (sym (append-nil s))

pub alone_then : (r : Regex) (s : List ℕ) → AcceptsState (r ∷ []) s → Denotes r s
alone_then r s (next_is {s = u} m nothing_left e) = subst (Denotes r) (sym (e ∙ append-nil u)) m

pub matched_by_run : (r : Regex) (s : List ℕ) → Denotes r s ↔ (list_any ends (states_behind ((r ∷ []) ∷ []) s) ≡ true)
matched_by_run r s = (to, back) where
  to : Denotes r s → list_any ends (states_behind ((r ∷ []) ∷ []) s) ≡ true
  to m = one_ends_if (states_behind ((r ∷ []) ∷ []) s) (steps_if ((r ∷ []) ∷ []) s (inl (alone_if r s m)))

  back : list_any ends (states_behind ((r ∷ []) ∷ []) s) ≡ true → Denotes r s
  back e = only (steps_then ((r ∷ []) ∷ []) s (one_ends_then (states_behind ((r ∷ []) ∷ []) s) e)) where
    only : AcceptsOne ((r ∷ []) ∷ []) s → Denotes r s
    only (inl a) = alone_then r s a
    only (inr h) = absurd h
