-- What is known of the calls that were taken, and of the answer at their end.
use Rattle.std.proofs.Common.{◌≡◌, ◌∙◌, ℕ, List, [], ◌∷◌, ◌++◌, All, Some, None, Result, Ok, Err, IfOk, IfSome, IsErrOf, OnErr, refl, sym, ap, subst, append_assoc}
use Rattle.std.proofs.lemmas.List.Elements.{All-weaker}
use Rattle.rng_model.specs.names.Names.{Name}
use Rattle.rng_model.specs.matching.Document.{Item}
use Rattle.rng_model.specs.datatypes.Texts.{texts_of}
use Rattle.rng_model.specs.declared.fault.OutOfMemory.{OutOfMemory}
use Rattle.rng_model.specs.declared.outcome.Outcome.{Outcome}
use Rattle.rng_model.specs.declared.outcome.Outcome.TheVariants as outcome
use Rattle.rng_model.specs.documents.ElementTrees.{IsElementTree}
use Rattle.rng_model.specs.documents.PyxTrees.{Event, Placed, text_at, element_at, item_of}
use Rattle.rng_model.specs.documents.Telling.{TellsDocument, TellsTheDocument}
use Rattle.rng_model.specs.matching.GrammarMatching.{IsValidBy, reading_of}
use Rattle.rng_model.specs.matching.Outcomes.{KnowsName, FailsAt, IsOutcome}
use Rattle.rng_model.specs.schema.Schema.{Schema}
use Rattle.rng_model.specs.simple.Table.{Table, grammar_of}
use Rattle.rng_model.specs.xsd.SchemasWith.{IsValidBySchemaWith}
use Rattle.rng_model.specs.xsd.TypeSets.{tests_in}
use Rattle.rng_model.specs.declared.type_set.TypeSet.{TypeSet}
use Rattle.rncv_model.specs.answers.Verdict.{IsUnknownIn, StartsUnknown}
use Rattle.element_events.specs.plain.Calls.{AreTaken, State}
use Rattle.element_events.specs.views.Kept.{Kept, Stands, IsVerdict}
use Rattle.element_events.specs.views.Told.{call}
use Rattle.element_events.specs.declared.fault.EventFault.{EventFault}
use Rattle.element_events.specs.declared.fault.EventFault.TheVariants as faults
use Rattle.element_events.proofs.Kept.{verdict_stuck, working}
use Rattle.element_events.proofs.Taken.{begins}
use Rattle.rng_deriv_events.specs.views.Positions.{failed_line}
use Rattle.rng_deriv_events.proofs.KnownDocuments.{fails_there, names_there}
use Rattle.rng_deriv_table.specs.views.Trees.{trees}
use Rattle.rng_deriv.specs.views.Matchers.{HasFailedAt, HasRunOut, Knows, Matching, judges_by}
use Rattle.rncv_validator.specs.views.Validators.{JudgesWith}
use Rattle.rncv_validator.proofs.FedDocuments.{Says, known_start, of_some}
use Rattle.rncv_events.specs.Answers.{AreHopelessFrom, IsAnswerOn, HaveKnownStarts}
use Rattle.rncv_events.specs.views.Documents.{failed_since}
use Rattle.rncv_events.specs.views.Told.{HasTaken, IsFaultOfCalls, Judging, answer_by}
use Rattle.rncv_events.proofs.CalledEvents.{all_in_front, came_by, calls_meet}

-- ---- trees

element_tree : (tree : Placed) (calls : List Event) → TellsDocument calls tree → IsElementTree tree
element_tree (text_at n s) calls told = absurd told.element
element_tree (element_at n q xs kids m) calls told = record { line = n; name = q; attributes = xs; kids = kids; last = m; is = refl; formed = told.formed }

-- an event in the middle of events that go on
middle : (before : List Event) (e : Event) (rest more : List Event) → (before ++ e ∷ rest) ++ more ≡ (before ++ e ∷ []) ++ (rest ++ more)
middle before e rest more = append_assoc before (e ∷ rest) more ∙ sym (append_assoc before (e ∷ []) (rest ++ more))

-- ---- a schema of the grammar

module _ (g : Table) (types : TypeSet) (s : Schema) (judges : JudgesWith types g s) where
  abbrev ByGrammar : TypeSet → Item → Type 0
  ByGrammar set root = IsValidBy (grammar_of g) (texts_of (tests_in set)) root

  by_grammar : (root : Item) → IsValidBySchemaWith types s root → ByGrammar g.types root
  by_grammar root valid = subst (λ (set : TypeSet). ByGrammar set root) (sym judges.set) ((judges.documents root).1 valid)

  by_schema : (root : Item) → ByGrammar g.types root → IsValidBySchemaWith types s root
  by_schema root valid = (judges.documents root).0 (subst (λ (set : TypeSet). ByGrammar set root) judges.set valid)

  -- the grammar has all names of the starts among the calls, if it has those among their events
  starts_known : {calls events : List Event} {t : State} → AreTaken calls t events → All (λ (e : Event). KnowsName (grammar_of g) e.kind) events
      → HaveKnownStarts (IsUnknownIn s) calls
  starts_known {calls} {events} a known =
      calls_meet (λ kind. ¬ (StartsUnknown (IsUnknownIn s) kind)) (λ text unknown. unknown) a
      (All-weaker (λ (e : Event). KnowsName (grammar_of g) e.kind) (λ (e : Event). ¬ (StartsUnknown (IsUnknownIn s) e.kind))
      (λ e there unknown. known_start g types s judges e.kind there unknown) events known)

  -- the place of the event after which no continuation is valid is the place of such a call
  hopeless : {calls events : List Event} {t : State} → AreTaken calls t events → (place : ℕ) → FailsAt (reading_of g) events place
      → AreHopelessFrom (IsValidBySchemaWith types s) (IsUnknownIn s) calls place
  hopeless {calls} {events} a place fails =
      let e : Event = record { line = place; kind = fails.kind } in
      let came = came_by a fails.before e fails.behind fails.parts in record {
        before = came.front;
        kind = came.kind;
        behind = came.back;
        parts = came.parts;
        cannot = λ more valid.
            let tree = valid.0 in
            let told = subst (λ (calls : List Event). TellsDocument calls tree) (sym (append_assoc came.front (call place came.kind ∷ []) more)) valid.1 in
            let walk = (begins came.with_it).events more tree told in
            fails.cannot (came.rest ++ walk.0) tree (element_tree tree _ valid.1)
            (walk.1 ∙ ap (λ (es : List Event). es ++ walk.0) came.has ∙ middle fails.before e came.rest walk.0) (by_grammar (item_of tree) valid.2);
        known = starts_known came.before_it
            (all_in_front (λ (e : Event). KnowsName (grammar_of g) e.kind) came.earlier_events came.between
            (subst (All (λ (e : Event). KnowsName (grammar_of g) e.kind)) came.within fails.known));
      }

  -- the outcome of the document that the calls tell is the answer
  told_answer : {calls events : List Event} {t : State} → AreTaken calls t events → (document : TellsTheDocument calls events) → (o : Outcome)
      → IsOutcome (reading_of g) document.tree o → IsAnswerOn (IsValidBySchemaWith types s) (IsUnknownIn s) calls (Ok o)
  told_answer a document outcome.Valid valid = (document.tree, document.document, by_schema (item_of document.tree) valid)
  told_answer a document (outcome.Invalid place) fails =
      ((document.tree, document.document), hopeless a place (subst (λ (es : List Event). FailsAt (reading_of g) es place) document.events fails.1))

-- ---- a document

module _ (d : Judging) (types : TypeSet) (s : Schema) (judges : JudgesWith types d.grammar s) (calls : List Event) (taken : HasTaken d calls) where
  judges_so : JudgesWith types d.matching.grammar s
  judges_so = subst (λ (g : Table). JudgesWith types g s) (sym taken.by_grammar) judges

  pub hopeless_from : (place : ℕ) → failed_since d ≡ Some place → d.calls.fault ≡ None → AreHopelessFrom (IsValidBySchemaWith types s) (IsUnknownIn s) calls place
  hopeless_from place failed calm =
      hopeless d.matching.grammar types s judges_so (working d.calls calls taken.events calm taken.stands).2 place
      (fails_there (judges_by d.matching) (trees d.matching.grammar d.matching.patterns) taken.events d.matching.progress place failed taken.knows)

  pub all_known : failed_since d ≡ None → ¬ (HasRunOut d.matching) → d.calls.fault ≡ None → HaveKnownStarts (IsUnknownIn s) calls
  all_known none kept calm =
      starts_known d.matching.grammar types s judges_so (working d.calls calls taken.events calm taken.stands).2
      (names_there (judges_by d.matching) (trees d.matching.grammar d.matching.patterns) taken.events d.matching.progress none kept taken.knows)

  pub ended_answer : {A : Type 0} (m : Matching) → m ≡ d.matching → d.calls.fault ≡ None → (ended : Result A EventFault) (o : Result Outcome OutOfMemory)
      → IsVerdict ended calls taken.events → IfOk o (Says m) → IsAnswerOn (IsValidBySchemaWith types s) (IsUnknownIn s) calls (answer_by ended o)
  ended_answer m there calm (Ok x) (Ok o) document says =
      let says_so = subst (λ (m : Matching). Says m o) there says in
      told_answer d.matching.grammar types s judges_so (working d.calls calls taken.events calm taken.stands).2 document o
      (says_so document.tree (element_tree document.tree calls document.document) (subst (Knows d.matching) (sym document.events) taken.knows))
  ended_answer m there calm (Ok x) (Err e) document says = tt
  ended_answer m there calm (Err faults.Memory) o ends says = tt
  ended_answer m there calm (Err faults.NotWellFormed) o none says = none

-- the answer that is an error
pub fault_answer : (IsValid : Item → Type 0) (IsUnknown : Name → Type 0) (k : Kept) (f : EventFault) → IsFaultOfCalls k (Some f) → (calls events : List Event)
    → Stands k calls events → IsAnswerOn IsValid IsUnknown calls (Err f)
fault_answer IsValid IsUnknown k faults.Memory is calls events stands = tt
fault_answer IsValid IsUnknown k faults.NotWellFormed is calls events stands = verdict_stuck (Unit {0}) k faults.NotWellFormed is calls events stands

-- once no continuation is valid, the answer has that place
pub ended_since : {A : Type 0} (d : Judging) (m : Matching) → m ≡ d.matching → (ended : Result A EventFault) (o : Result Outcome OutOfMemory)
    → ((place : ℕ) → HasFailedAt m place → IfOk o (λ told. told ≡ outcome.Invalid place))
    → IfSome (failed_since d) (λ place. IfOk (answer_by ended o) (λ told. told ≡ outcome.Invalid place))
ended_since d m there (Ok x) (Ok o) failed = of_some (failed_since d) (λ place f.
    failed place (ap (λ (m : Matching). failed_line m.progress) there ∙ f))
ended_since d m there (Ok x) (Err e) failed = of_some (failed_since d) (λ place f. tt)
ended_since d m there (Err f) o failed = of_some (failed_since d) (λ place f. tt)

none_some : {f : EventFault} → None ≡ Some f → ⊥
none_some e = cc

-- memory has not run out at the end, unless it had before
pub not_lost : {A : Type 0} (k : Kept) (m : Matching) (ended : Result A EventFault) (o : Result Outcome OutOfMemory) → k.fault ≡ None
    → (IsErrOf ended faults.Memory → k.fault ≡ Some faults.Memory) → OnErr o (HasRunOut m) → ¬ (HasRunOut m)
    → IsErrOf (answer_by ended o) faults.Memory → ⊥
not_lost k m (Ok x) (Ok o) calm memory lost kept e = absurd (cc)
not_lost k m (Ok x) (Err f) calm memory lost kept e = kept lost
not_lost k m (Err f) o calm memory lost kept e =
    let same : f ≡ faults.Memory = cc in
    let had : k.fault ≡ Some faults.Memory = memory (ap Err same) in
    none_some (sym calm ∙ had)
