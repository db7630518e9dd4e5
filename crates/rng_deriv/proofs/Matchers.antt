-- A matcher of a grammar, given what the event matcher inside it does.
use Rattle.std.proofs.Common.{◌≡◌, ◌∙◌, ℕ, Bool, List, [], ◌∷◌, ◌++◌, Result, Ok, Err, OnOk, append-nil, append_assoc, sym, ap, subst}
use Rattle.rng_model.specs.documents.EventViews.{Hands}
use Rattle.rng_model.specs.datatypes.Texts.{is_blank}
use Rattle.rng_model.specs.documents.PyxTrees.{Event, a_string}
use Rattle.rng_model.specs.matching.GrammarMatching.{reading_of}
use Rattle.rng_deriv_events.specs.views.Basis.{Basis}
use Rattle.rng_deriv_events.specs.views.Inputs.{event_at}
use Rattle.rng_deriv_events.specs.views.Positions.{StaysInMode}
use Rattle.rng_deriv.specs.views.Matchers.{HasFailedAt, HasGoneOn, HasRunOut, Knows, Matching, judges_by}

-- the grammar is in the basis
pub same_grammar : {A E : Type 0} (r : Result A E) (new old : Basis) → OnOk r (new ≡ old) → OnOk r (new.grammar ≡ old.grammar)
same_grammar (Ok x) new old same = ap (λ (b : Basis). b.grammar) same
same_grammar (Err f) new old same = tt

module _ (inside m : Matching) (is : inside ≡ m) where
  pub same_judge : {A E : Type 0} (new : Matching) (r : Result A E) → OnOk r (new.grammar ≡ inside.grammar) → OnOk r (judges_by new ≡ judges_by m)
  same_judge new (Ok x) same = ap reading_of same ∙ ap judges_by is
  same_judge new (Err f) same = tt

  pub goes_on : {A E : Type 0} (new : Matching) (e : Event) (r : Result A E) → OnOk r (new.grammar ≡ inside.grammar)
      → OnOk r ((es : List Event) → Knows inside es → Knows new (es ++ e ∷ []))
      → ((line : ℕ) → HasFailedAt inside line → OnOk r (HasFailedAt new line)) → OnOk r (StaysInMode inside.progress new.progress) → OnOk r (¬ (HasRunOut new))
      → OnOk r (Hands HasGoneOn m new (e ∷ []))
  goes_on new e (Ok x) same on failed mode kept = λ first sent gone.
      let gone : HasGoneOn first inside sent = subst (λ (m : Matching). HasGoneOn first m sent) (sym is) gone in
      record {
        grammar = same ∙ gone.grammar;
        knows = λ before k. subst (Knows new) (append_assoc before sent (e ∷ [])) (on (before ++ sent) (gone.knows before k));
        failed = λ line f. failed line (gone.failed line f);
        mode = λ whole k. mode whole (gone.mode whole k);
        kept = λ lost. absurd (kept lost);
      }
  goes_on new e (Err f) same on failed mode kept = tt

  -- a string of which only this is known: whether it is blank
  pub any_goes_on : {A E : Type 0} (new : Matching) (line : ℕ) (blank : Bool) (r : Result A E) → OnOk r (new.grammar ≡ inside.grammar)
      → OnOk r ((text : List ℕ) (es : List Event) → is_blank text ≡ blank → Knows inside es → Knows new (es ++ event_at line (a_string text) ∷ []))
      → ((at : ℕ) → HasFailedAt inside at → OnOk r (HasFailedAt new at)) → OnOk r (StaysInMode inside.progress new.progress) → OnOk r (¬ (HasRunOut new))
      → OnOk r ((text : List ℕ) → is_blank text ≡ blank → Hands HasGoneOn m new (event_at line (a_string text) ∷ []))
  any_goes_on {A} {E} new line blank (Ok x) same on failed mode kept = λ text is.
      goes_on {A = A} {E = E} new (event_at line (a_string text)) (Ok x) same (λ es. on text es is) failed mode kept
  any_goes_on new line blank (Err f) same on failed mode kept = tt

  -- no event is taken
  pub stays : {A E : Type 0} (new : Matching) (r : Result A E) → OnOk r (new.grammar ≡ inside.grammar)
      → OnOk r ((es : List Event) → Knows inside es → Knows new es) → ((line : ℕ) → HasFailedAt inside line → OnOk r (HasFailedAt new line))
      → OnOk r (StaysInMode inside.progress new.progress) → OnOk r (¬ (HasRunOut new)) → OnOk r (HasGoneOn m new [])
  stays new (Ok x) same on failed mode kept = subst (λ (m : Matching). HasGoneOn m new []) is (record {
    grammar = same;
    knows = λ before k. subst (Knows new) (sym (append-nil before)) (on before k);
    failed = failed;
    mode = mode;
    kept = λ lost. absurd (kept lost);
  })
  stays new (Err f) same on failed mode kept = tt

  -- what has failed stays so
  pub stays_failed : {A E : Type 0} (new : Matching) (r : Result A E) → ((line : ℕ) → HasFailedAt inside line → OnOk r (HasFailedAt new line))
      → OnOk r ((line : ℕ) → HasFailedAt m line → HasFailedAt new line)
  stays_failed new (Ok x) failed = λ line f. failed line (subst (λ (m : Matching). HasFailedAt m line) (sym is) f)
  stays_failed new (Err f) failed = tt
