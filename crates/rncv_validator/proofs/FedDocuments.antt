-- What is known of the bytes that were fed, and of the verdict on the document.
use Rattle.std.proofs.Common.{◌≡◌, ◌<◌, ◌⊎◌, inl, inr, ℕ, List, [], ◌++◌, All, Option, Some, None, Result, Ok, Err, IfOk, IfSome, refl, ap, sym, subst, ◌∙◌}
use Rattle.std.proofs.lemmas.List.{append-nil}
use Rattle.std.proofs.lemmas.List.Elements.{All-weaker}
use Rattle.rng_model.specs.documents.Lines.{lines}
use Rattle.rng_model.specs.datatypes.Texts.{texts_of}
use Rattle.rng_model.specs.declared.fault.OutOfMemory.{OutOfMemory}
use Rattle.rng_model.specs.declared.outcome.Outcome.{Outcome}
use Rattle.rng_model.specs.declared.outcome.Outcome.TheVariants as outcome
use Rattle.rng_model.specs.declared.pyx_fault.PyxFault.{PyxFault}
use Rattle.rng_model.specs.declared.pyx_fault.PyxFault.TheVariants as pyx
use Rattle.rng_model.specs.documents.Documents.{IsTheDocument}
use Rattle.rng_model.specs.documents.EventViews.{Hands}
use Rattle.rng_model.specs.documents.PyxClauses.{IsFirstFault}
use Rattle.rng_model.specs.documents.ElementTrees.{IsElementTree}
use Rattle.rng_model.specs.documents.PyxTrees.{Event, EventKind, a_start, a_string, an_end, Placed, events_of, item_of}
use Rattle.rng_model.specs.matching.GrammarMatching.{reading_of, IsValidBy}
use Rattle.rng_model.specs.matching.Outcomes.{KnowsName, IsOutcome}
use Rattle.rng_deriv_laws.proofs.PyxDocuments.{document_formed}
use Rattle.rng_model.specs.schema.Schema.{Schema}
use Rattle.rng_model.specs.simple.Table.{Table, grammar_of}
use Rattle.rng_model.specs.xsd.SchemasWith.{IsValidBySchemaWith}
use Rattle.rng_model.specs.xsd.TypeSets.{tests_in}
use Rattle.rng_model.specs.declared.type_set.TypeSet.{TypeSet}
use Rattle.rng_model.specs.declared.type_set.TypeSet.TheVariants.{Profile}
use Rattle.rncv_model.specs.answers.Verdict.{IsUnknownIn, IsMalformedVerdict, IsVerdict, StartsUnknown}
use Rattle.rncv_model.specs.answers.VerdictWith.{IsVerdictOn, IsVerdictOnWith}
use Rattle.rncv_model.specs.declared.verdict.Verdict.{Verdict}
use Rattle.rncv_model.specs.declared.verdict.Verdict.TheVariants.{Malformed, Invalid}
use Rattle.pyx.specs.views.Calls as calls
use Rattle.pyx.specs.views.ReaderAfterPiece.{Kept}
use Rattle.pyx.proofs.Events.FedLines.{ended_events, fed_front, fed_line}
use Rattle.pyx.proofs.Input.ReaderAfterPiece.{fed_stuck}
use Rattle.pyx.proofs.ReaderOutcome.{is_fault_after}
use Rattle.rng_deriv.specs.declared.matcher_state.MatcherState.{MatcherState}
use Rattle.rng_deriv_events.proofs.KnownDocuments.{fails_there, names_there}
use Rattle.rng_deriv_events.specs.views.Positions.{KeepsTag, StaysInMode}
use Rattle.rng_deriv_table.specs.views.Trees.{trees}
use Rattle.rng_deriv.specs.views.Matchers.{HasFailedAt, HasGoneOn, HasRunOut, IsStateBy, Knows, Matching, judges_by, matching_in}
use Rattle.rncv_validator.specs.plain.Judging.{IsUnknownTo, verdict_of}
use Rattle.rncv_validator.specs.declared.fault.DocumentFault.{DocumentFault}
use Rattle.rncv_validator.specs.declared.fault.DocumentFault.TheVariants as faults
use Rattle.rncv_validator.specs.views.Documents.{HaveEnded, IsFaultOfFed, IsHopelessFrom, KnowsStarts, UnlessMemory, failed_since, told_by}
use Rattle.rncv_validator.specs.views.FedDocuments.{HasBeenFed, HasNotRunOut, IsFaultOfReader, IsKeptFault, IsReaderFault, Judging, matching_of, verdict_by}
use Rattle.rncv_validator.specs.views.Validators.{Judges, JudgesWith}
use Rattle.rncv_validator.proofs.DocumentVerdict.{one_verdict, outcome_verdict, same_verdict}
use Rattle.rncv_validator.proofs.UnknownNames.{unknown_to_grammar}

-- ---- the verdict

module _ (types : TypeSet) (s : Schema) (bytes : List ℕ) where
  -- the verdict is the only one
  on_schema : (v : Verdict) → IsVerdict (IsValidBySchemaWith types s) (IsUnknownIn s) bytes v → IsVerdictOnWith types s bytes v
  on_schema v is = record { is = is; only = λ w. one_verdict (IsValidBySchemaWith types s) (IsUnknownIn s) bytes v w is }

  -- a verdict by the grammar is one by the schema
  by_grammar : (g : Table) → JudgesWith types g s → (v : Verdict)
      → IsVerdict (IsValidBy (grammar_of g) (texts_of (tests_in g.types))) (IsUnknownTo (grammar_of g)) bytes v → IsVerdictOnWith types s bytes v
  by_grammar g judges v is =
      let of_set = subst
      (λ (set : TypeSet). IsVerdict (IsValidBy (grammar_of g) (texts_of (tests_in set))) (IsUnknownTo (grammar_of g)) bytes v) judges.set is in
      on_schema v (same_verdict _ _ _ _ judges.documents (unknown_to_grammar s (grammar_of g) judges.only) bytes v of_set)

-- the verdict is that by each schema of the grammar, with its set of datatypes
abbrev pub HoldsWith : Judging → Verdict → Type 0
HoldsWith d v = (types : TypeSet) (s : Schema) (bytes : List ℕ) → JudgesWith types d.grammar s → HasBeenFed d bytes → IsVerdictOnWith types s bytes v

-- the same, with the set of the profile
abbrev pub Holds : Judging → Verdict → Type 0
Holds d v = (s : Schema) (bytes : List ℕ) → Judges d.grammar s → HasBeenFed d bytes → IsVerdictOn s bytes v

pub holds_in_profile : (d : Judging) (r : Result Verdict OutOfMemory) → IfOk r (HoldsWith d) → IfOk r (Holds d)
holds_in_profile d (Ok v) holds = λ s bytes judges fed. let on = holds Profile s bytes judges fed in record { is = on.is; only = on.only }
holds_in_profile d (Err e) holds = tt

-- the outcome of a matcher is right for each document with the events that it has had
abbrev pub Says : Matching → Outcome → Type 0
Says m o = (t : Placed) → IsElementTree t → Knows m (events_of t) → IsOutcome (judges_by m) t o

-- a taker that was given the events has taken them
pub gone : (a b : Matching) (es : List Event) → Hands HasGoneOn a b es → HasGoneOn a b es
gone a b es h = h a [] (record { grammar = refl; knows = λ before k. subst (Knows a) (sym (append-nil before)) k; failed = λ line f. f; mode = λ whole k. k; kept = λ lost. lost })

module _ (d : Judging) (old new : Matching) (there : old ≡ d.matching) (types : TypeSet) (s : Schema) (judges : JudgesWith types d.grammar s)
    (bytes : List ℕ) (fed : HasBeenFed d bytes) where
  taken : (es : List Event) (o : Outcome) → Hands HasGoneOn old new es → IsTheDocument bytes (fed.events ++ es) → Says new o
      → IsVerdictOnWith types s bytes (verdict_of o)
  taken es o handed document says =
      let t = document.tree in
      let on = gone old new es handed in
      let known = on.knows fed.events (subst (λ (m : Matching). Knows m fed.events) (sym there) fed.knows) in
      let outcome = says t (document_formed document.document) (subst (Knows new) (sym document.events_are) known) in
      let same : new.grammar ≡ d.grammar = on.grammar ∙ ap (λ (m : Matching). m.grammar) there ∙ fed.by_grammar in
      by_grammar types s bytes d.grammar judges (verdict_of o)
      (outcome_verdict (reading_of d.grammar) bytes t document.document o (subst (λ (g : Table). IsOutcome (reading_of g) t o) same outcome))

-- the verdict on a document that has ended
pub ended_verdict : {A : Type 0} (d : Judging) (old new : Matching) → old ≡ d.matching → (ended : Result A PyxFault)
    (outcome : Result Outcome OutOfMemory) → calls.UnlessOutOfMemory ended (calls.Ends (Hands HasGoneOn old new) d.reader ended) → IfOk outcome (Says new)
    → IfOk (verdict_by ended outcome) (HoldsWith d)
ended_verdict d old new there (Ok x) (Ok outcome.Valid) ends says = λ types s bytes judges fed.
    taken d old new there types s judges bytes fed ends.0 outcome.Valid ends.1 (ends.2 bytes fed.events fed.reads) says
ended_verdict d old new there (Ok x) (Ok (outcome.Invalid line)) ends says = λ types s bytes judges fed.
    taken d old new there types s judges bytes fed ends.0 (outcome.Invalid line) ends.1 (ends.2 bytes fed.events fed.reads) says
ended_verdict d old new there (Ok x) (Err e) ends says = tt
ended_verdict d old new there (Err pyx.Memory) o ends says = tt
ended_verdict d old new there (Err (pyx.At clause line)) o ends says = λ types s bytes judges fed.
    on_schema types s bytes (Malformed clause line) (ends.2 bytes fed.events fed.reads).first

-- if there is a verdict, the matcher keeps its grammar
pub ended_grammar : {A : Type 0} (k : Kept) (old new : Matching) (ended : Result A PyxFault) (outcome : Result Outcome OutOfMemory) (v : Verdict)
    → calls.UnlessOutOfMemory ended (calls.Ends (Hands HasGoneOn old new) k ended) → verdict_by ended outcome ≡ Ok v → new.grammar ≡ old.grammar
ended_grammar k old new (Ok x) o v ends e = (gone old new ends.0 ends.1).grammar
ended_grammar k old new (Err pyx.Memory) o v ends e = absurd (cc)
ended_grammar k old new (Err (pyx.At clause line)) o v ends e = (gone old new ends.0 ends.1).grammar

-- ---- one more piece

-- a claim about the value of an option, if it has one
pub of_some : {A : Type 0} {P : A → Type 0} (o : Option A) → ((x : A) → o ≡ Some x → P x) → IfSome o P
of_some None h = tt
of_some (Some x) h = h x refl

module _ (d e : Judging) (old new : Matching) (there : old ≡ d.matching) (now : new ≡ e.matching) (same : e.matching.grammar ≡ e.grammar)
    (piece : List ℕ) (longer : calls.Extends (Hands HasGoneOn old new) d.reader e.reader piece) where
  pub piece_fed : (bytes : List ℕ) → HasBeenFed d bytes → HasBeenFed e (bytes ++ piece)
  piece_fed bytes fed =
      let on = gone old new longer.0 longer.1 in
      record {
        by_grammar = same;
        events = fed.events ++ longer.0;
        reads = longer.2 bytes fed.events fed.reads;
        knows = subst (λ (m : Matching). Knows m (fed.events ++ longer.0)) now
            (on.knows fed.events (subst (λ (m : Matching). Knows m fed.events) (sym there) fed.knows));
      }

  -- once no continuation is valid, this stays so
  pub stays_failed : (line : ℕ) → failed_since d ≡ Some line → failed_since e ≡ Some line
  stays_failed line f =
      let on = gone old new longer.0 longer.1 in
      let was : HasFailedAt old line = subst (λ (m : Matching). HasFailedAt m line) (sym there) f in
      subst (λ (m : Matching). HasFailedAt m line) now (on.failed line was)

  pub since_kept : IfSome (failed_since d) (λ line. failed_since e ≡ Some line)
  since_kept = of_some (failed_since d) stays_failed

  -- a start is kept as before
  pub stays_in_mode : StaysInMode d.matching.progress e.matching.progress
  stays_in_mode whole keeps =
      let on = gone old new longer.0 longer.1 in
      subst (λ (m : Matching). KeepsTag whole m.progress) now (on.mode whole (subst (λ (m : Matching). KeepsTag whole m.progress) (sym there) keeps))

-- the matcher that continues a document has the state that is kept for it
pub resumed : (g now : Table) (o : Option MatcherState) (s : MatcherState) (m : Matching) (k : Kept) (f : Option DocumentFault) (d : Judging)
    → ◌≡◌ {A = Judging} (record { grammar = g; reader = k; matching = matching_of g o; fault = f }) d → o ≡ Some s → now ≡ g → m ≡ matching_in now s
    → m ≡ d.matching
resumed g now o s m k f d view there same is =
    is ∙ ap (λ t. matching_in t s) same ∙ ap (matching_of g) (sym there) ∙ ap (λ (d : Judging). d.matching) view

-- what holds of the state that there is
pub state_there : (o : Option MatcherState) (s : MatcherState) (P : MatcherState → Type 0) → o ≡ Some s → IfSome o P → P s
state_there o s P there is = subst (λ o. IfSome o P) there is

-- what the matcher leaves is a state for the grammar
module _ (g now : Table) (s kept : MatcherState) (old new : Matching) (same : now ≡ g) (is : old ≡ matching_in now s) (on : new.grammar ≡ old.grammar) where
  grammar_kept : new.grammar ≡ g
  grammar_kept = on ∙ ap (λ (m : Matching). m.grammar) is ∙ same

  pub state_kept : IsStateBy new.grammar kept → IsStateBy g kept
  state_kept state = subst (λ (t : Table). IsStateBy t kept) grammar_kept state

  module _ (place : Option MatcherState) (put : place ≡ Some kept) where
    pub state_put : IsStateBy new.grammar kept → IfSome place (IsStateBy g)
    state_put state = subst (λ o. IfSome o (IsStateBy g)) (sym put) (state_kept state)

    pub known_put : matching_in new.grammar kept ≡ new → new ≡ matching_of g place
    known_put e = sym e ∙ ap (λ t. matching_in t kept) grammar_kept ∙ ap (matching_of g) (sym put)

    pub kept_put : matching_in new.grammar kept ≡ new → (HasRunOut new → HasRunOut old) → HasNotRunOut g s → IfSome place (HasNotRunOut g)
    kept_put e lost had =
        let there : matching_in g kept ≡ new = ap (λ t. matching_in t kept) (sym grammar_kept) ∙ e in
        let was : old ≡ matching_in g s = is ∙ ap (λ t. matching_in t s) same in
        subst (λ o. IfSome o (HasNotRunOut g)) (sym put)
        (λ out. had (subst (λ (m : Matching). HasRunOut m) was (lost (subst (λ (m : Matching). HasRunOut m) there out))))

    pub grammar_put : (matching_of g place).grammar ≡ g
    grammar_put = ap (λ o. (matching_of g o).grammar) put

    pub fault_put : (k : Kept) (f : Option DocumentFault) → IsReaderFault k f → IsKeptFault k place f
    fault_put k f is = subst (λ o. IsKeptFault k o f) (sym put) is

-- a reader that has a fault stays unchanged
pub stuck_fed : (d : Judging) (f : DocumentFault) → IsFaultOfReader d.reader f → (piece : List ℕ)
    → UnlessMemory {A = Unit {0}} (Err f) ((bytes : List ℕ) → HasBeenFed d bytes → HasBeenFed d (bytes ++ piece))
stuck_fed d faults.Memory of piece = tt
stuck_fed d (faults.Malformed clause line) of piece = λ bytes fed.
    piece_fed d d d.matching d.matching refl refl fed.by_grammar piece
    (fed_stuck (Unit {0}) HasGoneOn d.matching d.reader piece (pyx.At clause line) of) bytes fed

-- ---- the fault

-- a fault of the reader is one of all bytes that begin with those that were fed
pub fault_of_fed : (d : Judging) (f : DocumentFault) → IsFaultOfReader d.reader f → IsFaultOfFed d f
fault_of_fed d faults.Memory of = tt
fault_of_fed d (faults.Malformed clause line) of = λ bytes rest fed.
    (is_fault_after d.reader (pyx.At clause line) of bytes fed.events fed.reads rest).first

-- ---- the line after which no continuation is valid

-- it is one of the lines that were fed, and no document with the same lines up to it is valid
pub hopeless_from : (d : Judging) (line : ℕ) (types : TypeSet) (s : Schema) (bytes : List ℕ) → failed_since d ≡ Some line
    → JudgesWith types d.grammar s → HasBeenFed d bytes → IsHopelessFrom (IsValidBySchemaWith types s) bytes line
hopeless_from d line types s bytes f judges fed =
    let m = d.matching in
    let fails = fails_there (judges_by m) (trees m.grammar m.patterns) fed.events m.progress line f fed.knows in
    let e : Event = record { line = line; kind = fails.kind } in
    let at = fed_line d.reader bytes fed.events fed.reads fails.before e fails.behind fails.parts in
    record {
      not_before = at.0;
      within = at.1;
      cannot = λ rest other same valid.
          let t = valid.0 in
          let begins = fed_front d.reader bytes fed.events fed.reads fails.before e fails.behind fails.parts rest other t valid.1 same in
          let by_grammar = (judges.documents (item_of t)).1 valid.2 in
          let of_set = subst (λ (set : TypeSet). IsValidBy (grammar_of d.grammar) (texts_of (tests_in set)) (item_of t)) (sym judges.set) by_grammar in
          fails.cannot begins.0 t (document_formed valid.1) begins.1
          (subst (λ (g : Table). IsValidBy (grammar_of g) (texts_of (tests_in g.types)) (item_of t)) (sym fed.by_grammar) of_set);
    }

-- where none is known and memory was there, the grammar has all names of the starts
all_known : (d : Judging) (bytes : List ℕ) (fed : HasBeenFed d bytes) → failed_since d ≡ None → ¬ (HasRunOut d.matching)
    → All (λ (e : Event). KnowsName (grammar_of d.grammar) e.kind) fed.events
all_known d bytes fed none kept = subst (λ (t : Table). All (λ (e : Event). KnowsName (grammar_of t) e.kind) fed.events) fed.by_grammar
    (names_there (judges_by d.matching) (trees d.matching.grammar d.matching.patterns) fed.events d.matching.progress none kept fed.knows)

pub known_start : (g : Table) (types : TypeSet) (s : Schema) → JudgesWith types g s → (kind : EventKind) → KnowsName (grammar_of g) kind
    → StartsUnknown (IsUnknownIn s) kind → ⊥
known_start g types s judges (a_start name attrs) known unknown = known (unknown_to_grammar s (grammar_of g) judges.only name unknown)
known_start g types s judges (a_string text) known unknown = unknown
known_start g types s judges an_end known unknown = unknown

-- and documents with the same ended lines have no other starts at these
pub names_known : (d : Judging) (types : TypeSet) (s : Schema) (bytes : List ℕ) (n : ℕ) → failed_since d ≡ None → ¬ (HasRunOut d.matching)
    → d.reader.fault ≡ None → JudgesWith types d.grammar s → HasBeenFed d bytes → HaveEnded bytes n → KnowsStarts (IsUnknownIn s) bytes n
names_known d types s bytes n none kept works judges fed ended = λ other document same is.
    ended_events d.reader bytes fed.events fed.reads works n ended.within ended.ended other document is same
    (λ (e : Event). StartsUnknown (IsUnknownIn s) e.kind → n < e.line)
    (All-weaker (λ (e : Event). KnowsName (grammar_of d.grammar) e.kind) (λ (e : Event). StartsUnknown (IsUnknownIn s) e.kind → n < e.line)
    (λ e known unknown. absurd (known_start d.grammar types s judges e.kind known unknown)) fed.events (all_known d bytes fed none kept))
    (λ e late unknown. late)

-- ---- what a document keeps

-- if none is kept, the reader has none
pub none_kept : (k : Kept) (f : Option DocumentFault) → f ≡ None → k.fault ≡ None → IsReaderFault k f
none_kept k f e works = subst (IsReaderFault k) (sym e) works

pub reader_works : (k : Kept) (o : Option MatcherState) (f : Option DocumentFault) → f ≡ None → IsKeptFault k o f → k.fault ≡ None
reader_works k None f e is = absurd (cc)
reader_works k (Some s) f e is = subst (IsReaderFault k) e is

-- a fault that is kept is the reader's, or out of memory
pub fault_there : (k : Kept) (o : Option MatcherState) (kept : Option DocumentFault) (f : DocumentFault) → kept ≡ Some f → IsKeptFault k o kept
    → IsFaultOfReader k f
fault_there k None kept f e is = subst (IsFaultOfReader k) (same (sym is ∙ e)) tt where
  same : {a b : DocumentFault} → Some a ≡ Some b → a ≡ b
  same e = cc
fault_there k (Some s) kept f e is = subst (IsReaderFault k) e is

-- ---- the verdict at the end

-- the verdict that reports a fault is the verdict on the bytes
pub fault_verdict : (d : Judging) (f : DocumentFault) → IsFaultOfReader d.reader f → IfOk (told_by f) (HoldsWith d)
fault_verdict d faults.Memory of = tt
fault_verdict d (faults.Malformed clause line) of = λ types s bytes judges fed.
    let first = fault_of_fed d (faults.Malformed clause line) of bytes [] fed in
    on_schema types s bytes (Malformed clause line)
    (subst (λ b. IsFirstFault (lines b) (record { clause = clause; line = line })) (append-nil bytes) first)

pub fault_since : (f : DocumentFault) (o : Option ℕ) → IfSome o (λ line. IfOk (told_by f) (λ v. IsMalformedVerdict v ⊎ (v ≡ Invalid line)))
fault_since faults.Memory o = of_some o (λ line e. tt)
fault_since (faults.Malformed clause line) o = of_some o (λ n e. inl tt)

pub ended_since : {A : Type 0} (d : Judging) (old new : Matching) → old ≡ d.matching → (ended : Result A PyxFault) (o : Result Outcome OutOfMemory)
    → calls.UnlessOutOfMemory ended (calls.Ends (Hands HasGoneOn old new) d.reader ended)
    → ((line : ℕ) → HasFailedAt new line → IfOk o (λ told. told ≡ outcome.Invalid line))
    → IfSome (failed_since d) (λ line. IfOk (verdict_by ended o) (λ v. IsMalformedVerdict v ⊎ (v ≡ Invalid line)))
ended_since d old new there (Ok x) (Ok o) ends says = of_some (failed_since d) (λ line f.
    let was : HasFailedAt old line = subst (λ (m : Matching). HasFailedAt m line) (sym there) f in
    let now = (gone old new ends.0 ends.1).failed line was in
    told o line (says line now))
  where
    told : (o : Outcome) (line : ℕ) → o ≡ outcome.Invalid line → IfOk (verdict_by (Ok x) (Ok o)) (λ v. IsMalformedVerdict v ⊎ (v ≡ Invalid line))
    told outcome.Valid line e = absurd (cc)
    told (outcome.Invalid n) line e = inr (cc)
ended_since d old new there (Ok x) (Err e) ends says = of_some (failed_since d) (λ line f. tt)
ended_since d old new there (Err pyx.Memory) o ends says = of_some (failed_since d) (λ line f. tt)
ended_since d old new there (Err (pyx.At clause at)) o ends says = of_some (failed_since d) (λ line f. inl tt)
