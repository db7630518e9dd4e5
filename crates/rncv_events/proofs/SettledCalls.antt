-- What is kept after a call stands for the calls with this one.
use Rattle.std.proofs.Common.{◌≡◌, ◌∙◌, ℕ, List, [], ◌∷◌, ◌++◌, Bool, true, false, Option, Some, None, Result, Ok, Err, IfErr, IfSome, IsErrOf, OnOk, refl, sym, ap}
use Rattle.std.proofs.Common.{append_assoc, subst}
use Rattle.std.proofs.lemmas.List.{append-nil}
use Rattle.std.specs.Prelude.{unwrap_or}
use Rattle.rng_model.specs.documents.EventViews.{Hands}
use Rattle.rng_model.specs.datatypes.Texts.{is_blank}
use Rattle.rng_model.specs.documents.PyxTrees.{Event, a_string}
use Rattle.rng_model.specs.documents.Telling.{BeginToTell, IsGood, NoneBegins, string_at}
use Rattle.rng_model.specs.simple.Table.{Table}
use Rattle.element_events.specs.views.Kept.{Adds, Extends, IsAfter, IsPassed, Kept, Stands}
use Rattle.element_events.specs.views.Told.{UnlessOutOfMemory}
use Rattle.element_events.specs.declared.fault.EventFault.{EventFault}
use Rattle.element_events.specs.declared.fault.EventFault.TheVariants as faults
use Rattle.element_events.proofs.Passed.{some_passed}
use Rattle.element_events.proofs.Taken.{none_more, not_good}
use Rattle.rng_deriv_events.specs.views.Inputs.{event_at, tests_strings}
use Rattle.rng_deriv_events.specs.views.Positions.{KeepsTag, StaysInMode}
use Rattle.rng_deriv.specs.declared.matcher_state.MatcherState.{MatcherState}
use Rattle.rng_deriv.specs.views.Matchers.{HasFailedAt, HasGoneOn, HasRunOut, IsStateBy, Knows, Matching, matching_in}
use Rattle.rncv_validator.specs.views.FedDocuments.{HasNotRunOut, IsFresh, matching_of}
use Rattle.rncv_validator.proofs.FedDocuments.{gone, grammar_put, kept_put, known_put, of_some, state_put}
use Rattle.rncv_events.specs.Answers.{IsResult}
use Rattle.rncv_events.specs.views.Leading.{HasPassedRightly, HoldsRightly, LeadsOn, MayPass}
use Rattle.rncv_events.specs.views.Settled.{IsSettled}
use Rattle.rncv_events.specs.views.Documents.{IsStuck, failed_since}
use Rattle.rncv_events.specs.views.Told.{HasTaken, IsFaultOfCalls, IsKeptFault, Judging, StillKnows, Takes}

-- ---- no call yet

pub begun : (g : Table) (k : Kept) (o : Option MatcherState) (f : Option EventFault) → Stands k [] [] → IfSome o (IsFresh g)
    → HasTaken (record { grammar = g; calls = k; matching = matching_of g o; fault = f }) []
begun g k None f stands fresh = record { by_grammar = refl; events = []; stands = stands; knows = tt }
begun g k (Some s) f stands fresh = record { by_grammar = refl; events = []; stands = stands; knows = fresh.knows }

pub begun_mode : (g : Table) (o : Option MatcherState) → IfSome o (IsFresh g) → KeepsTag false (matching_of g o).progress
begun_mode g None fresh = tt
begun_mode g (Some s) fresh = fresh.mode

-- ---- the result of a call

none_begins : (k : Kept) (calls events : List Event) → k.fault ≡ Some faults.NotWellFormed → Stands k calls events → NoneBegins calls
none_begins k calls events f stands = subst (λ (o : Option EventFault). IsAfter o k.passed k.state calls events) f stands

-- the fault of a call that is kept
pub of_fault : (k : Kept) (r : Result Unit EventFault) → IfErr r (λ f. k.fault ≡ Some f) → IsErrOf r faults.NotWellFormed → k.fault ≡ Some faults.NotWellFormed
of_fault k (Ok x) fault e = absurd (cc)
of_fault k (Err f) fault e = let same : f ≡ faults.NotWellFormed = cc in fault ∙ ap Some same

module _ (d : Judging) (k : Kept) (c : Event) where
  abbrev Extended : Type 0
  Extended = (calls sent : List Event) → Stands d.calls calls sent → (es : List Event) × Stands k (calls ++ c ∷ []) (sent ++ es)

  extended_is : (r : Result Unit EventFault) → UnlessOutOfMemory r Extended
      → OnOk r ((calls events : List Event) → Stands k calls events → BeginToTell calls events)
      → (IsErrOf r faults.NotWellFormed → k.fault ≡ Some faults.NotWellFormed) → (calls : List Event) → HasTaken d calls → IsResult r (calls ++ c ∷ [])
  extended_is (Ok x) longer begins fault calls taken =
      let e = longer calls taken.events taken.stands in
      let b = begins (calls ++ c ∷ []) (taken.events ++ e.0) e.1 in (b.more, b.tree, b.document)
  extended_is (Err faults.NotWellFormed) longer begins fault calls taken =
      let e = longer calls taken.events taken.stands in
      none_begins k (calls ++ c ∷ []) (taken.events ++ e.0) (fault refl) e.1
  extended_is (Err faults.Memory) longer begins fault calls taken = tt

  led : (old new : Matching) (r : Result Unit EventFault) → UnlessOutOfMemory r (LeadsOn old new d.calls k c) → UnlessOutOfMemory r Extended
  led old new (Ok x) leads = λ calls sent s. let e = leads.each calls sent s in (e.0, e.2)
  led old new (Err faults.NotWellFormed) leads = λ calls sent s. let e = leads.each calls sent s in (e.0, e.2)
  led old new (Err faults.Memory) leads = tt

  pub result_is : (old new : Matching) (r : Result Unit EventFault) → UnlessOutOfMemory r (LeadsOn old new d.calls k c)
      → OnOk r ((calls events : List Event) → Stands k calls events → BeginToTell calls events)
      → (IsErrOf r faults.NotWellFormed → k.fault ≡ Some faults.NotWellFormed) → (calls : List Event) → HasTaken d calls → IsResult r (calls ++ c ∷ [])
  result_is old new r leads = extended_is r (led old new r leads)

  added : (r : Result Unit EventFault) → UnlessOutOfMemory r (Adds d.calls k c) → UnlessOutOfMemory r Extended
  added (Ok x) adds = λ calls sent s. ([], subst (Stands k (calls ++ c ∷ [])) (sym (append-nil sent)) (adds calls sent s))
  added (Err faults.NotWellFormed) adds = λ calls sent s. ([], subst (Stands k (calls ++ c ∷ [])) (sym (append-nil sent)) (adds calls sent s))
  added (Err faults.Memory) adds = tt

  pub text_result_is : (r : Result Unit EventFault) → UnlessOutOfMemory r (Adds d.calls k c)
      → OnOk r ((calls events : List Event) → Stands k calls events → BeginToTell calls events) → IfErr r (λ f. k.fault ≡ Some f)
      → (calls : List Event) → HasTaken d calls → IsResult r (calls ++ c ∷ [])
  text_result_is r adds begins fault = extended_is r (added r adds) begins (of_fault k r fault)

-- ---- a call after a fault

module _ (d : Judging) (f : EventFault) (is : IsFaultOfCalls d.calls (Some f)) (c : Event) where
  pub stuck_result : (calls : List Event) → HasTaken d calls → IsResult (Err f) (calls ++ c ∷ [])
  stuck_result = by f is where
    by : (f : EventFault) → IsFaultOfCalls d.calls (Some f) → (calls : List Event) → HasTaken d calls → IsResult (Err f) (calls ++ c ∷ [])
    by faults.Memory is calls taken = tt
    by faults.NotWellFormed is calls taken = none_more calls c (none_begins d.calls calls taken.events is taken.stands)

  pub stuck_taken : UnlessOutOfMemory {A = Unit {0}} (Err f) (Takes d d c)
  stuck_taken = by f is where
    by : (f : EventFault) → IsFaultOfCalls d.calls (Some f) → UnlessOutOfMemory {A = Unit {0}} (Err f) (Takes d d c)
    by faults.Memory is = tt
    by faults.NotWellFormed is = λ calls taken. record {
      by_grammar = taken.by_grammar;
      events = taken.events;
      knows = taken.knows;
      stands = subst (λ (o : Option EventFault). IsAfter o d.calls.passed d.calls.state (calls ++ c ∷ []) taken.events) (sym is)
          (none_more calls c (none_begins d.calls calls taken.events is taken.stands));
    }

-- a fault that is kept is that of the calls, or out of memory
pub fault_of_calls : (k : Kept) (o : Option MatcherState) (kept : Option EventFault) (f : EventFault) → kept ≡ Some f → IsKeptFault k o kept
    → IsFaultOfCalls k (Some f)
fault_of_calls k None kept f e is = subst (λ (f : EventFault). IsFaultOfCalls k (Some f)) (same (sym is ∙ e)) tt where
  same : {a b : EventFault} → Some a ≡ Some b → a ≡ b
  same e = cc
fault_of_calls k (Some s) kept f e is = subst (IsFaultOfCalls k) e is

-- without a fault a state is kept, and the calls have none
pub calls_work : (k : Kept) (o : Option MatcherState) (kept : Option EventFault) → kept ≡ None → IsKeptFault k o kept → k.fault ≡ None
calls_work k None kept e is = absurd (cc)
calls_work k (Some s) kept e is = subst (IsFaultOfCalls k) e is

pub stuck : (d : Judging) (f : EventFault) → IsFaultOfCalls d.calls (Some f) → IsStuck d f
stuck d faults.Memory is = tt
stuck d faults.NotWellFormed is = λ calls c taken. (stuck_result d faults.NotWellFormed is c calls taken, stuck_taken d faults.NotWellFormed is c calls taken)

-- ---- a call that the caller refuses

-- a call that no document has is one of those that were taken
pub refused_taken : (d e : Judging) → e.grammar ≡ d.grammar → e.matching ≡ d.matching → e.calls.fault ≡ Some faults.NotWellFormed
    → (calls : List Event) (c : Event) → ¬ (IsGood c.kind) → HasTaken d calls → HasTaken e (calls ++ c ∷ [])
refused_taken d e grammar matching fault calls c bad taken = record {
  by_grammar = ap (λ (m : Matching). m.grammar) matching ∙ taken.by_grammar ∙ sym grammar;
  events = taken.events;
  stands = subst (λ (o : Option EventFault). IsAfter o e.calls.passed e.calls.state (calls ++ c ∷ []) taken.events) (sym fault) (not_good calls c bad);
  knows = subst (λ (m : Matching). Knows m taken.events) (sym matching) taken.knows;
}

pub refusal_first : (k : Kept) (o : Option MatcherState) (earlier now : Option EventFault) (f r : EventFault) → earlier ≡ None → earlier ≡ now
    → IsKeptFault k o earlier → r ≡ unwrap_or k.fault f → r ≡ unwrap_or now f
refusal_first k o earlier now f r e same is told = told ∙ ap (λ (x : Option EventFault). unwrap_or x f) (calls_work k o earlier e is ∙ sym e ∙ same)

-- ---- a call that hands events to the matcher

module _ (g now : Table) (s : MatcherState) (old new : Matching) (same : now ≡ g) (is : old ≡ matching_in now s) (j k : Kept) (c : Event)
    (earlier : Option EventFault) (place : Option MatcherState) (fault : Option EventFault) where
  abbrev Longer : Type 0
  Longer = LeadsOn old new j k c

  on : (longer : Longer) → HasGoneOn old new longer.some
  on longer = longer.gone

  pub state_settled : (r : Result Unit EventFault) → UnlessOutOfMemory r Longer → IsSettled r new earlier place fault → IfSome place (IsStateBy g)
  state_settled (Ok x) longer p = state_put g now s p.0.kept old new same is (on longer).grammar place p.0.is p.0.state
  state_settled (Err faults.NotWellFormed) longer p = state_put g now s p.0.kept old new same is (on longer).grammar place p.0.is p.0.state
  state_settled (Err faults.Memory) longer p = subst (λ (o : Option MatcherState). IfSome o (IsStateBy g)) (sym p.0) tt

  pub fault_settled : (r : Result Unit EventFault) → UnlessOutOfMemory r Longer → IsSettled r new earlier place fault → earlier ≡ None
      → OnOk r (k.fault ≡ None) → (IsErrOf r faults.NotWellFormed → k.fault ≡ Some faults.NotWellFormed) → IsKeptFault k place fault
  fault_settled (Ok x) longer p calm works of =
      subst (λ (o : Option MatcherState). IsKeptFault k o fault) (sym p.0.is) (subst (IsFaultOfCalls k) (sym (p.1 ∙ calm)) works)
  fault_settled (Err faults.NotWellFormed) longer p calm works of =
      subst (λ (o : Option MatcherState). IsKeptFault k o fault) (sym p.0.is) (subst (IsFaultOfCalls k) (sym p.1) (of refl))
  fault_settled (Err faults.Memory) longer p calm works of = subst (λ (o : Option MatcherState). IsKeptFault k o fault) (sym p.0) p.1

  pub kept_settled : (r : Result Unit EventFault) → UnlessOutOfMemory r Longer → IsSettled r new earlier place fault → HasNotRunOut g s
      → IfSome place (HasNotRunOut g)
  kept_settled (Ok x) longer p had = kept_put g now s p.0.kept old new same is (on longer).grammar place p.0.is p.0.same (on longer).kept had
  kept_settled (Err faults.NotWellFormed) longer p had =
      kept_put g now s p.0.kept old new same is (on longer).grammar place p.0.is p.0.same (on longer).kept had
  kept_settled (Err faults.Memory) longer p had = subst (λ (o : Option MatcherState). IfSome o (HasNotRunOut g)) (sym p.0) tt

  module _ (d : Judging) (there : old ≡ d.matching) (calls_are : j ≡ d.calls) where
    abbrev After : Judging
    After = record { grammar = g; calls = k; matching = matching_of g place; fault = fault }

    takes : (longer : Longer) → new ≡ matching_of g place → (matching_of g place).grammar ≡ g → Takes d After c
    takes longer now by_grammar = λ calls taken.
        let e = longer.each calls taken.events (subst (λ (k : Kept). Stands k calls taken.events) (sym calls_are) taken.stands) in record {
          by_grammar = by_grammar;
          events = taken.events ++ e.0;
          stands = e.2;
          knows = subst (λ (m : Matching). Knows m (taken.events ++ e.0)) now
              (e.1.knows taken.events (subst (λ (m : Matching). Knows m taken.events) (sym there) taken.knows));
        }

    pub taken_settled : (r : Result Unit EventFault) → UnlessOutOfMemory r Longer → IsSettled r new earlier place fault → UnlessOutOfMemory r (Takes d After c)
    taken_settled (Ok x) longer p =
        takes longer (known_put g now s p.0.kept old new same is (on longer).grammar place p.0.is p.0.same)
        (grammar_put g now s p.0.kept old new same is (on longer).grammar place p.0.is)
    taken_settled (Err faults.NotWellFormed) longer p =
        takes longer (known_put g now s p.0.kept old new same is (on longer).grammar place p.0.is p.0.same)
        (grammar_put g now s p.0.kept old new same is (on longer).grammar place p.0.is)
    taken_settled (Err faults.Memory) longer p = tt

    still_failed : (longer : Longer) → new ≡ matching_of g place → (at : ℕ) → failed_since d ≡ Some at → failed_since After ≡ Some at
    still_failed longer now at f =
        let was : HasFailedAt old at = subst (λ (m : Matching). HasFailedAt m at) (sym there) f in
        subst (λ (m : Matching). HasFailedAt m at) now ((on longer).failed at was)

    pub since_settled : (r : Result Unit EventFault) → UnlessOutOfMemory r Longer → IsSettled r new earlier place fault
        → IfSome (failed_since d) (λ at. UnlessOutOfMemory r (failed_since After ≡ Some at))
    since_settled (Ok x) longer p = of_some (failed_since d) (λ at f.
        still_failed longer (known_put g now s p.0.kept old new same is (on longer).grammar place p.0.is p.0.same) at f)
    since_settled (Err faults.NotWellFormed) longer p = of_some (failed_since d) (λ at f.
        still_failed longer (known_put g now s p.0.kept old new same is (on longer).grammar place p.0.is p.0.same) at f)
    since_settled (Err faults.Memory) longer p = of_some (failed_since d) (λ at f. tt)

    -- a start is kept as before
    in_mode : (longer : Longer) → new ≡ matching_of g place → StaysInMode d.matching.progress After.matching.progress
    in_mode longer now whole keeps = subst (λ (m : Matching). KeepsTag whole m.progress) now
        ((on longer).mode whole (subst (λ (m : Matching). KeepsTag whole m.progress) (sym there) keeps))

    pub mode_settled : (r : Result Unit EventFault) → UnlessOutOfMemory r Longer → IsSettled r new earlier place fault
        → UnlessOutOfMemory r (StaysInMode d.matching.progress After.matching.progress)
    mode_settled (Ok x) longer p = in_mode longer (known_put g now s p.0.kept old new same is (on longer).grammar place p.0.is p.0.same)
    mode_settled (Err faults.NotWellFormed) longer p = in_mode longer (known_put g now s p.0.kept old new same is (on longer).grammar place p.0.is p.0.same)
    mode_settled (Err faults.Memory) longer p = tt

-- the matcher that continues a document has the state that is kept for it
pub resumed_there : (g now : Table) (o : Option MatcherState) (s : MatcherState) (m : Matching) (k : Kept) (f : Option EventFault) (d : Judging)
    → ◌≡◌ {A = Judging} (record { grammar = g; calls = k; matching = matching_of g o; fault = f }) d → o ≡ Some s → now ≡ g → m ≡ matching_in now s
    → m ≡ d.matching
resumed_there g now o s m k f d view there same is =
    is ∙ ap (λ t. matching_in t s) same ∙ ap (matching_of g) (sym there) ∙ ap (λ (d : Judging). d.matching) view

-- a matcher that has this state has not run out of memory, if the state has not
pub not_run_out : (g now : Table) (s : MatcherState) (m : Matching) → now ≡ g → m ≡ matching_in now s → HasNotRunOut g s → ¬ (HasRunOut m)
not_run_out g now s m same is kept lost = kept (subst (λ (m : Matching). HasRunOut m) (is ∙ ap (λ (t : Table). matching_in t s) same) lost)

-- the fault that is kept is that of the call
pub fault_told : (r : Result Unit EventFault) (m : Matching) (earlier : Option EventFault) (place : Option MatcherState) (fault : Option EventFault)
    → IsSettled r m earlier place fault → IfErr r (λ f. fault ≡ Some f)
fault_told (Ok x) m earlier place fault p = tt
fault_told (Err faults.NotWellFormed) m earlier place fault p = p.1
fault_told (Err faults.Memory) m earlier place fault p = p.1

pub none_told : (r : Result Unit EventFault) (m : Matching) (earlier : Option EventFault) (place : Option MatcherState) (fault : Option EventFault)
    → IsSettled r m earlier place fault → earlier ≡ None → OnOk r (fault ≡ None)
none_told (Ok x) m earlier place fault p calm = p.1 ∙ calm
none_told (Err f) m earlier place fault p calm = tt

-- ---- a question, which tells nothing

-- the calls that were taken stay so
pub still_taken : (d e : Judging) → StillKnows d e → (calls : List Event) → HasTaken d calls → HasTaken e calls
still_taken d e still calls taken = record {
  by_grammar = still.by_grammar;
  events = taken.events;
  stands = subst (λ (k : Kept). Stands k calls taken.events) (sym still.calls) taken.stands;
  knows = still.knows taken.events taken.knows;
}

-- ---- a text, which hands nothing to the matcher

pub text_takes : (d e : Judging) (c : Event) → e.grammar ≡ d.grammar → e.matching ≡ d.matching → Adds d.calls e.calls c → Takes d e c
text_takes d e c grammar matching adds = λ calls taken. record {
  by_grammar = ap (λ (m : Matching). m.grammar) matching ∙ taken.by_grammar ∙ sym grammar;
  events = taken.events;
  stands = adds calls taken.events taken.stands;
  knows = subst (λ (m : Matching). Knows m taken.events) (sym matching) taken.knows;
}

pub text_taken : (d e : Judging) (c : Event) → e.grammar ≡ d.grammar → e.matching ≡ d.matching → (r : Result Unit EventFault)
    → UnlessOutOfMemory r (Adds d.calls e.calls c) → UnlessOutOfMemory r (Takes d e c)
text_taken d e c grammar matching (Ok x) adds = text_takes d e c grammar matching adds
text_taken d e c grammar matching (Err faults.NotWellFormed) adds = text_takes d e c grammar matching adds
text_taken d e c grammar matching (Err faults.Memory) adds = tt

pub text_working : (j k : Kept) (o : Option MatcherState) (kept : Option EventFault) → kept ≡ None → IsKeptFault j o kept → k.fault ≡ None → IsKeptFault k o kept
text_working j k None kept calm is works = is
text_working j k (Some s) kept calm is works = subst (IsFaultOfCalls k) (sym calm) works

pub text_fault : (j k : Kept) (o : Option MatcherState) (kept : Option EventFault) (f : EventFault) → kept ≡ None → IsKeptFault j o kept → k.fault ≡ Some f
    → IsKeptFault k o (Some f)
text_fault j k None kept f calm is of = absurd (cc)
text_fault j k (Some s) kept faults.Memory calm is of = tt
text_fault j k (Some s) kept faults.NotWellFormed calm is of = of

-- ---- strings that are passed over

-- after a start or an end none is
pub passed_settled : (r : Result Unit EventFault) (m : Matching) (earlier : Option EventFault) (place : Option MatcherState) (fault : Option EventFault)
    (passed : Option Bool) → IsSettled r m earlier place fault → OnOk r (passed ≡ None) → HasPassedRightly passed place fault
passed_settled (Ok x) m earlier place fault passed p none =
    subst (λ (o : Option Bool). HasPassedRightly o place fault) (sym none) (none_passed place fault) where
      none_passed : (place : Option MatcherState) (fault : Option EventFault) → HasPassedRightly None place fault
      none_passed None None = tt
      none_passed (Some s) None = tt
      none_passed place (Some f) = tt
passed_settled (Err faults.NotWellFormed) m earlier place fault passed p none =
    subst (HasPassedRightly passed place) (sym p.1) tt
passed_settled (Err faults.Memory) m earlier place fault passed p none = subst (HasPassedRightly passed place) (sym p.1) tt

-- what a document keeps serves the matcher that goes on
pub may_pass : (passed : Option Bool) (o : Option MatcherState) (fault : Option EventFault) (g : Table) (s : MatcherState) (m : Matching) → fault ≡ None
    → o ≡ Some s → m ≡ matching_in g s → HasPassedRightly passed o fault → MayPass passed m.progress
may_pass passed o fault g s m calm there is rightly =
    subst (λ (m : Matching). MayPass passed m.progress) (sym is)
    (subst (λ (o : Option MatcherState). IfSome o (λ s. MayPass passed s.progress)) there (subst (HasPassedRightly passed o) calm rightly))

-- after a text
pub text_passed : (tests : Bool) (old new : Option Bool) (o : Option MatcherState) (s : MatcherState) (fault : Option EventFault) → fault ≡ None → o ≡ Some s
    → tests ≡ tests_strings s.progress → HasPassedRightly old o fault → (tests ≡ true → old ≡ None → new ≡ None) → HasPassedRightly new o fault
text_passed tests old new o s fault calm there is rightly kept =
    let before = subst (λ (o : Option MatcherState). IfSome o (λ s. MayPass old s.progress)) there (subst (HasPassedRightly old o) calm rightly) in
    subst (HasPassedRightly new o) (sym calm)
    (subst (λ (o : Option MatcherState). IfSome o (λ s. MayPass new s.progress)) (sym there) (by tests old new is before kept)) where
      none : (new : Option Bool) (b : Bool) → new ≡ None → IfSome new (λ _. b ≡ false)
      none new b e = subst (λ (o : Option Bool). IfSome o (λ _. b ≡ false)) (sym e) tt

      untested : (new : Option Bool) (b : Bool) → b ≡ false → IfSome new (λ _. b ≡ false)
      untested None b e = tt
      untested (Some x) b e = e

      by : (tests : Bool) (old new : Option Bool) → tests ≡ tests_strings s.progress → MayPass old s.progress → (tests ≡ true → old ≡ None → new ≡ None)
          → MayPass new s.progress
      by false old new is before kept = untested new (tests_strings s.progress) (sym is)
      by true None new is before kept = none new (tests_strings s.progress) (kept refl refl)
      by true (Some x) new is before kept = untested new (tests_strings s.progress) before

-- ---- a text that is held

pub nothing_held : (place : Option MatcherState) (fault : Option EventFault) → HoldsRightly [] place fault
nothing_held None None = tt
nothing_held (Some s) None = λ e. refl
nothing_held place (Some f) = tt

-- after a start or an end none is
pub held_settled : (r : Result Unit EventFault) (m : Matching) (earlier : Option EventFault) (place : Option MatcherState) (fault : Option EventFault)
    (text : List ℕ) → IsSettled r m earlier place fault → OnOk r (text ≡ []) → HoldsRightly text place fault
held_settled (Ok x) m earlier place fault text p none = subst (λ (t : List ℕ). HoldsRightly t place fault) (sym none) (nothing_held place fault)
held_settled (Err faults.NotWellFormed) m earlier place fault text p none = subst (HoldsRightly text place) (sym p.1) tt
held_settled (Err faults.Memory) m earlier place fault text p none = subst (HoldsRightly text place) (sym p.1) tt

-- after a text
pub text_held : (tests : Bool) (old new : List ℕ) (o : Option MatcherState) (s : MatcherState) (fault : Option EventFault) → fault ≡ None → o ≡ Some s
    → tests ≡ tests_strings s.progress → HoldsRightly old o fault → (tests ≡ false → old ≡ [] → new ≡ []) → HoldsRightly new o fault
text_held tests old new o s fault calm there is rightly kept =
    let before = subst (λ (o : Option MatcherState). IfSome o (λ s. tests_strings s.progress ≡ false → old ≡ [])) there (subst (HoldsRightly old o) calm rightly) in
    subst (HoldsRightly new o) (sym calm)
    (subst (λ (o : Option MatcherState). IfSome o (λ s. tests_strings s.progress ≡ false → new ≡ [])) (sym there) (λ e. kept (is ∙ e) (before e)))

-- none is where nothing is tested
pub held_nothing : (g : Table) (k : Kept) (o : Option MatcherState) (fault : Option EventFault) → fault ≡ None → HoldsRightly k.state.text o fault
    → tests_strings (matching_of g o).progress ≡ false → k.state.text ≡ []
held_nothing g k None fault calm rightly e = absurd (cc)
held_nothing g k (Some s) fault calm rightly e = subst (HoldsRightly k.state.text (Some s)) calm rightly e

-- ---- a string that was passed over, and a start or an end

-- a taker of events goes on through another
hands_on : (a b c : Matching) (es fs : List Event) → Hands HasGoneOn a b es → Hands HasGoneOn b c fs → Hands HasGoneOn a c (es ++ fs)
hands_on a b c es fs h i first sent gone = subst (HasGoneOn first c) (append_assoc sent es fs) (i first (sent ++ es) (h first sent gone))

pub leads_on : (a b c : Matching) (j k : Kept) (e : Event) → ((text : List ℕ) → IsPassed j.passed text → Hands HasGoneOn a b (string_at e.line text))
    → Extends (Hands HasGoneOn b c) j k e → LeadsOn a c j k e
leads_on a b c j k e passed extends =
    let on = λ (text : List ℕ) (is : IsPassed j.passed text).
    gone a c (string_at e.line text ++ extends.0) (hands_on a b c (string_at e.line text) extends.0 (passed text is) extends.1) in
    let text = some_passed j.passed in record {
      some = string_at e.line text.0 ++ extends.0;
      gone = on text.0 text.1;
      each = λ calls sent s. let t = extends.2 calls sent s in (string_at e.line t.0 ++ extends.0, on t.0 t.1, t.2);
    }

pub leads_unless : {A : Type 0} (a b c : Matching) (j k : Kept) (e : Event) (r : Result A EventFault)
    → ((text : List ℕ) → IsPassed j.passed text → Hands HasGoneOn a b (string_at e.line text)) → UnlessOutOfMemory r (Extends (Hands HasGoneOn b c) j k e)
    → UnlessOutOfMemory r (LeadsOn a c j k e)
leads_unless a b c j k e (Ok x) passed extends = leads_on a b c j k e passed extends
leads_unless a b c j k e (Err faults.NotWellFormed) passed extends = leads_on a b c j k e passed extends
leads_unless a b c j k e (Err faults.Memory) passed extends = tt

-- a string of which only this is known
passed_hands : (a b : Matching) (place : ℕ) (blank : Bool) → ((text : List ℕ) → is_blank text ≡ blank → Hands HasGoneOn a b (event_at place (a_string text) ∷ []))
    → (text : List ℕ) → IsPassed (Some blank) text → Hands HasGoneOn a b (string_at place text)
passed_hands a b place blank any [] is = absurd (is.0 refl)
passed_hands a b place blank any (c ∷ cs) is = any (c ∷ cs) is.1

pub passed_told : {A E : Type 0} (a b : Matching) (place : ℕ) (blank : Bool) (p : Option Bool) (r : Result A E) → p ≡ Some blank
    → OnOk r ((text : List ℕ) → is_blank text ≡ blank → Hands HasGoneOn a b (event_at place (a_string text) ∷ []))
    → OnOk r ((text : List ℕ) → IsPassed p text → Hands HasGoneOn a b (string_at place text))
passed_told a b place blank p (Ok x) is any = λ text t. passed_hands a b place blank any text (subst (λ (p : Option Bool). IsPassed p text) is t)
passed_told a b place blank p (Err e) is any = tt

pub nothing_hands : (a : Matching) (place : ℕ) (text : List ℕ) → IsPassed None text → Hands HasGoneOn a a (string_at place text)
nothing_hands a place text is = λ first sent gone. subst (λ (t : List ℕ). HasGoneOn first a (sent ++ string_at place t)) (sym is)
    (subst (HasGoneOn first a) (sym (append-nil sent)) gone)
