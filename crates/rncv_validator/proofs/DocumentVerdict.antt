-- The verdict on a document is unique, except for the line of an invalid document. It depends only on which documents
-- are valid.
use Rattle.std.proofs.Common.{◌≡◌, ◌↔◌, ◌≤◌, ℕ, List, ◌∷◌, All, length}
use Rattle.std.proofs.Common.{sym, ap, subst, refl, ap₂, ◌∙◌, arith, inl, inr}
use Rattle.std.proofs.lemmas.List.Elements.{All-append, All-cons, All-weaker}
use Rattle.rng_model.proofs.Options.{ok_is_err}
use Rattle.rng_model.specs.matching.Document.{Item}
use Rattle.rng_model.specs.documents.Lines.{lines, Fault, IsBefore}
use Rattle.rng_model.specs.names.Names.{Name}
use Rattle.rng_model.specs.documents.PyxClauses.{Breaks}
use Rattle.rng_model.specs.documents.PyxTrees.{Event, EventKind, a_start, a_string, an_end, Placed, item_of, events_of, IsPyxDocument}
use Rattle.rng_model.specs.matching.GrammarMatching.{Reading, IsValidBy}
use Rattle.rng_model.specs.matching.Outcomes.{KnowsName, IsOutcome, FailsAt}
use Rattle.rng_deriv_laws.proofs.PyxDocuments.{document_formed}
use Rattle.rng_model.specs.declared.outcome.Outcome.{Outcome}
use Rattle.rng_model.specs.declared.outcome.Outcome.TheVariants as outcome
use Rattle.rng_model.specs.datatypes.Texts.{texts_of}
use Rattle.pyx.specs.plain.DocumentReader.{Turn, State, document_read}
use Rattle.pyx.proofs.Documents.Complete.{complete}
use Rattle.pyx.proofs.Documents.Least.{at_most}
use Rattle.pyx.proofs.Events.EventLines.{as_long, event_line, lines_rise, same_front}
use Rattle.rncv_validator.specs.plain.Judging.{IsUnknownTo, verdict_of}
use Rattle.rncv_model.specs.answers.Verdict.{IsVerdict, IsInvalidFrom, CannotBeValid, StartsUnknown, AreSameVerdict}
use Rattle.rncv_model.specs.declared.verdict.Verdict.{Verdict}
use Rattle.rncv_model.specs.declared.verdict.Verdict.TheVariants.{Valid, Malformed, Invalid}

-- ---- one verdict

-- the bytes of a document break no clause
nothing_broken : (bytes : List ℕ) (d : Placed) (f : Fault) → IsPyxDocument bytes d → Breaks (lines bytes) f → ⊥
unfolding document_read
nothing_broken bytes d f is b =
    let m = at_most b in
    ok_is_err (sym (ap (λ (t : Turn State). t.0) (complete bytes d is).is) ∙ m.is)

-- two faults that are each not after the other are equal
same_fault : (j m k n : ℕ) → IsBefore (record { clause = j; line = m }) (record { clause = k; line = n }) →
    IsBefore (record { clause = k; line = n }) (record { clause = j; line = m }) → (j ≡ k) × (m ≡ n)
same_fault j m k n (inl a) (inl b) = absurd (omega arith)
same_fault j m k n (inl a) (inr b) = absurd (let e = b.0 in omega arith)
same_fault j m k n (inr a) (inl b) = absurd (let e = a.0 in omega arith)
same_fault j m k n (inr a) (inr b) = let p = a.1 in let q = b.1 in (omega arith, a.0)

module _ (IsValid : Item → Type 0) (IsUnknown : Name → Type 0) (bytes : List ℕ) where
  pub one_verdict : (v w : Verdict) → IsVerdict IsValid IsUnknown bytes v → IsVerdict IsValid IsUnknown bytes w → AreSameVerdict v w
  one_verdict Valid Valid p q = refl
  one_verdict Valid (Malformed k n) p q = absurd (nothing_broken bytes p.0 _ p.1 q.broken)
  one_verdict Valid (Invalid n) p q = absurd (q.cannot bytes refl p)
  one_verdict (Malformed k n) Valid p q = absurd (nothing_broken bytes q.0 _ q.1 p.broken)
  one_verdict (Malformed j m) (Malformed k n) p q =
      let e = same_fault k n j m (q.least _ p.broken) (p.least _ q.broken) in ap₂ Malformed e.0 e.1
  one_verdict (Malformed k n) (Invalid m) p q = absurd (nothing_broken bytes q.document _ q.is_document p.broken)
  one_verdict (Invalid n) Valid p q = absurd (p.cannot bytes refl q)
  one_verdict (Invalid m) (Malformed k n) p q = absurd (nothing_broken bytes p.document _ p.is_document q.broken)
  one_verdict (Invalid m) (Invalid n) p q = (n, refl)

-- ---- the verdict of an outcome

module _ (g : Reading) (bytes : List ℕ) (d : Placed) (is : IsPyxDocument bytes d) where
  abbrev IsValid : Item → Type 0
  IsValid = IsValidBy g.grammar (texts_of g.tests)

  abbrev IsUnknown : Name → Type 0
  IsUnknown = IsUnknownTo g.grammar

  not_known : (kind : EventKind) → KnowsName g.grammar kind → StartsUnknown IsUnknown kind → ⊥
  not_known (a_start name attrs) known unknown = known unknown
  not_known (a_string text) known unknown = unknown
  not_known an_end known unknown = unknown

  module _ (line : ℕ) (f : FailsAt g (events_of d) line) where
    abbrev failing : Event
    failing = record { line = line; kind = f.kind }

    at : (1 ≤ line) × (line ≤ length (lines bytes))
    at = event_line bytes d f.before failing f.behind is f.parts

    cannot : CannotBeValid IsValid bytes line
    cannot other same valid =
        let long = as_long line (lines other) (lines bytes) same at.1 in
        let more = same_front bytes other d valid.0 line f.before failing f.behind is valid.1 at.1 long (sym same) f.parts (omega arith) in
        f.cannot more.0 valid.0 (document_formed valid.1) more.1 valid.2

    abbrev Later : Event → Type 0
    Later e = StartsUnknown IsUnknown e.kind → line ≤ e.line

    known : All Later (events_of d)
    known =
        subst (All Later) (sym f.parts)
        (All-append Later f.before (failing ∷ f.behind)
        (All-weaker (λ e. KnowsName g.grammar e.kind) Later (λ e k u. absurd (not_known e.kind k u)) f.before f.known)
        (All-cons Later failing f.behind (λ u. omega arith)
        (All-weaker (λ e. line ≤ e.line) Later (λ e le u. le) f.behind (lines_rise bytes d f.before failing f.behind is f.parts))))

    invalid_from : IsInvalidFrom IsValid IsUnknown bytes line
    invalid_from = record { document = d; is_document = is; not_before = at.0; within = at.1; cannot = cannot; known = known }

  pub outcome_verdict : (o : Outcome) → IsOutcome g d o → IsVerdict IsValid IsUnknown bytes (verdict_of o)
  outcome_verdict outcome.Valid valid = (d, is, valid)
  outcome_verdict (outcome.Invalid line) fails = invalid_from line fails.1

-- ---- two notions of validity with the same valid documents, the second with no more unknown names

module _ (IsValid IsAlsoValid : Item → Type 0) (IsUnknown IsAlsoUnknown : Name → Type 0) (same : (root : Item) → IsValid root ↔ IsAlsoValid root)
    (less : (name : Name) → IsAlsoUnknown name → IsUnknown name) where
  less_unknown : (kind : EventKind) → StartsUnknown IsAlsoUnknown kind → StartsUnknown IsUnknown kind
  less_unknown (a_start name attrs) u = less name u
  less_unknown (a_string text) u = u
  less_unknown an_end u = u

  pub same_verdict : (bytes : List ℕ) (v : Verdict) → IsVerdict IsValid IsUnknown bytes v → IsVerdict IsAlsoValid IsAlsoUnknown bytes v
  same_verdict bytes Valid h = (h.0, h.1, (same (item_of h.0)).0 h.2)
  same_verdict bytes (Malformed clause line) h = h
  same_verdict bytes (Invalid n) h = record {
    document = h.document;
    is_document = h.is_document;
    not_before = h.not_before;
    within = h.within;
    cannot = λ other e valid. h.cannot other e (valid.0, valid.1, (same (item_of valid.0)).1 valid.2);
    known = All-weaker (λ e. StartsUnknown IsUnknown e.kind → n ≤ e.line) (λ e. StartsUnknown IsAlsoUnknown e.kind → n ≤ e.line)
        (λ e late u. late (less_unknown e.kind u)) (events_of h.document) h.known;
  }
