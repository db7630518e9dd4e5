-- What a matcher knows after one more event, and what its outcome says of a document.
use Rattle.std.proofs.Common.{◌≡◌, ◌≢◌, ◌∙◌, ℕ, List, [], ◌∷◌, ◌++◌, Bool, true, false, inl, inr, refl, sym, ap, subst, append_assoc}
use Rattle.std.proofs.lemmas.List.Elements.{All-nil, All-push}
use Rattle.rng_model.specs.simple.Grammar.{Grammar}
use Rattle.rng_model.specs.simple.Table.{grammar_of}
use Rattle.rng_model.specs.datatypes.Texts.{TextTests}
use Rattle.rng_model.specs.documents.ElementTrees.{IsElementTree}
use Rattle.rng_model.specs.documents.PyxTrees.{Event, EventKind, a_start, a_string, an_end, Placed, text_at, element_at, events_of}
use Rattle.rng_model.specs.matching.GrammarMatching.{Reading, reading_of}
use Rattle.rng_model.specs.matching.Outcomes.{IsValidByReading, KnowsName, FailsAt}
use Rattle.rng_model.specs.restrictions.RestrictionFaults.{BreaksNone}
use Rattle.rng_model.specs.xsd.TypeSets.{tests_in}
use Rattle.rng_deriv_laws.specs.plain.Events.{Matcher, kinds, new, run, step, is_valid}
use Rattle.rng_deriv_laws.specs.plain.Laws.{reading}
use Rattle.rng_deriv_laws.specs.plain.States.{accepts, is_never}
use Rattle.rng_deriv_laws.proofs.Events.{kinds_append}
use Rattle.rng_deriv_laws.proofs.Laws.{accepts_valid_documents, invalid_is_never, never_is_invalid, unknown_name_is_never}
use Rattle.rng_plain_matcher.specs.views.Matchers.{HasGoneOn, Knows, Matching, Tells, after_event, failing, grammar_in, matching_of}
use Rattle.rng_plain_matcher.specs.declared.matcher.PlainMatcher.{PlainMatcher}

-- ---- one more event

run_last : (g : Reading) (m : Matcher) (es : List EventKind) (e : EventKind) → run g m (es ++ e ∷ []) ≡ step g (run g m es) e
run_last g m [] e = refl
run_last g m (k ∷ es) e = run_last g (step g m k) es e

-- the event has a name that the grammar has, if something is left after it
known_kind : (g : Grammar) (tests : TextTests) (m : Matcher) (kind : EventKind) → is_never (step (reading g tests) m kind).state ≡ false → KnowsName g kind
known_kind g tests m (a_start q xs) some = λ none. let never = unknown_name_is_never g tests m q xs none in absurd (cc)
known_kind g tests m (a_string s) some = tt
known_kind g tests m an_end some = tt

-- what fails fails with one more event
fails_on : (g : Reading) (es : List Event) (e : Event) (line : ℕ) → FailsAt g es line → FailsAt g (es ++ e ∷ []) line
fails_on g es e line f = record {
  before = f.before;
  kind = f.kind;
  behind = f.behind ++ e ∷ [];
  parts = ap (λ l. l ++ e ∷ []) f.parts ∙ append_assoc f.before (record { line = line; kind = f.kind } ∷ f.behind) (e ∷ []);
  cannot = f.cannot;
  known = f.known;
}

module _ (m : Matching) (es : List Event) (e : Event) (obeys : BreaksNone (grammar_of m.grammar))
    (position : m.position ≡ run (reading_of m.grammar) (new (grammar_of m.grammar).start) (kinds es)) where
  next : Matcher
  next = step (reading_of m.grammar) m.position e.kind

  next_is : next ≡ run (reading_of m.grammar) (new (grammar_of m.grammar).start) (kinds (es ++ e ∷ []))
  unfolding next
  next_is =
      ap (λ p. step (reading_of m.grammar) p e.kind) position
      ∙ sym (run_last (reading_of m.grammar) (new (grammar_of m.grammar).start) (kinds es) e.kind)
      ∙ ap (λ l. run (reading_of m.grammar) (new (grammar_of m.grammar).start) l) (sym (kinds_append es (e ∷ [])))

  -- what is told after an event, if nothing had failed before
  tells_first : (b : Bool) → is_never next.state ≡ b → Tells false m es → Tells b (failing false m e next) (es ++ e ∷ [])
  unfolding next
  tells_first true never told = record {
    before = es;
    kind = e.kind;
    behind = [];
    parts = refl;
    cannot = λ more. never_is_invalid (grammar_of m.grammar) obeys (tests_in m.grammar.types) (es ++ e ∷ []) more (ap (λ p. is_never p.state) (sym next_is) ∙ never);
    known = told.0;
  }
  tells_first false some told =
      (All-push (λ e. KnowsName (grammar_of m.grammar) e.kind) es e told.0 (known_kind (grammar_of m.grammar) (tests_in m.grammar.types) m.position e.kind some), inr some)

  knows_on : (b : Bool) → Tells b m es → Knows (failing b m e next) (es ++ e ∷ [])
  knows_on true told = record { obeys = obeys; position = next_is; tells = fails_on (reading_of m.grammar) es e m.line told }
  knows_on false told = record { obeys = obeys; position = next_is; tells = tells_first (is_never next.state) refl told }

pub knows_more : (m : Matching) (es : List Event) (e : Event) → Knows m es → Knows (after_event m e) (es ++ e ∷ [])
unfolding next
knows_more m es e k = knows_on m es e k.obeys k.position m.has_failed k.tells

-- the grammar stays
grammar_stays : (b : Bool) (m : Matching) (e : Event) (p : Matcher) → (failing b m e p).grammar ≡ m.grammar
grammar_stays true m e p = refl
grammar_stays false m e p = refl

module _ (old new : PlainMatcher) (e : Event) (is : matching_of new ≡ after_event (matching_of old) e) where
  pub same_grammar : grammar_in new ≡ grammar_in old
  same_grammar =
      ap (λ m. m.grammar) is
      ∙ grammar_stays old.has_failed (matching_of old) e (step (reading_of (grammar_in old)) (matching_of old).position e.kind)

  pub knows_next : (es : List Event) → Knows (matching_of old) es → Knows (matching_of new) (es ++ e ∷ [])
  knows_next es k = subst (λ m. Knows m (es ++ e ∷ [])) (sym is) (knows_more (matching_of old) es e k)

  pub goes_on : (first : PlainMatcher) (es : List Event) → HasGoneOn first old es → HasGoneOn first new (es ++ e ∷ [])
  goes_on first es h = record {
    grammar = same_grammar ∙ h.grammar;
    knows = λ before k. subst (Knows (matching_of new)) (append_assoc before es (e ∷ [])) (knows_next (before ++ es) (h.knows before k));
  }

-- ---- the outcome

some_event : (d : Placed) → events_of d ≢ []
some_event (text_at n s) e = cc
some_event (element_at n q xs kids last) e = cc

module _ (m : Matching) (d : Placed) (is : IsElementTree d) (k : Knows m (events_of d)) where
  accepted : accepts m.position.state ≡ is_valid (reading_of m.grammar) (kinds (events_of d))
  accepted = ap (λ p. accepts p.state) k.position

  pub accepted_is_valid : accepts m.position.state ≡ true → IsValidByReading (reading_of m.grammar) d
  accepted_is_valid h = (accepts_valid_documents (grammar_of m.grammar) k.obeys (tests_in m.grammar.types) d is).0 (sym accepted ∙ h)

  not_valid : accepts m.position.state ≡ false → IsValidByReading (reading_of m.grammar) d → ⊥
  not_valid h v =
      let valid = (accepts_valid_documents (grammar_of m.grammar) k.obeys (tests_in m.grammar.types) d is).1 v in
      let same = accepted in
      absurd (cc)

  told : (b : Bool) → Tells b m (events_of d) → is_never m.position.state ≡ true → FailsAt (reading_of m.grammar) (events_of d) m.line
  told true t never = t
  told false (known, inl none) never = absurd (some_event d none)
  told false (known, inr some) never = absurd (cc)

  pub rejected_is_invalid : accepts m.position.state ≡ false
      → ¬ (IsValidByReading (reading_of m.grammar) d) × FailsAt (reading_of m.grammar) (events_of d) m.line
  rejected_is_invalid h = (
    not_valid h,
    told m.has_failed k.tells
        (ap (λ p. is_never p.state) k.position ∙ invalid_is_never (grammar_of m.grammar) k.obeys (tests_in m.grammar.types) d is (not_valid h)),
  )

-- ---- before the first event

pub knows_first : (m : Matching) → BreaksNone (grammar_of m.grammar) → m.position ≡ new (grammar_of m.grammar).start → m.has_failed ≡ false → Knows m []
knows_first m obeys position going = record {
  obeys = obeys;
  position = position;
  tells = subst (λ b. Tells b m []) (sym going) (All-nil (λ e. KnowsName (grammar_of m.grammar) e.kind), inl refl);
}
