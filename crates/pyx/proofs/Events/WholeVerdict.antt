-- The result for whole bytes is the verdict on them.
use Rattle.std.proofs.Common.{◌≡◌, ℕ, List, Ok, Err, sym, ap, subst, ◌∙◌}
use Rattle.rng_model.proofs.Options.{ok_is_err}
use Rattle.rng_model.specs.documents.Lines.{lines, Fault}
use Rattle.rng_model.specs.documents.PyxTrees.{Placed, Event, events_of, IsPyxDocument}
use Rattle.pyx.specs.plain.DocumentReader.{State, Turn, document_read}
use Rattle.rng_model.specs.documents.Documents.{AreEventsBefore, IsTheDocument, IsTheFault}
use Rattle.pyx.proofs.Documents.Complete.{complete}
use Rattle.pyx.proofs.Documents.Sound.{sound}
use Rattle.pyx.proofs.Documents.Least.{first_fault}
use Rattle.pyx.proofs.Events.EventsAtFault.{events_at_fault}

all_events : (bytes : List ℕ) (tree : Placed) → IsPyxDocument bytes tree → (document_read (lines bytes)).1 ≡ events_of tree
all_events bytes tree d = ap (λ (t : Turn State). t.1) (complete bytes tree d).is

pub is_document : (bytes : List ℕ) (s : State) (events : List Event) → (document_read (lines bytes)).0 ≡ Ok s → (document_read (lines bytes)).1 ≡ events
    → IsTheDocument bytes events
is_document bytes s events e f = let t = sound bytes s e in record {
  tree = t.0;
  document = t.1;
  events_are = sym (all_events bytes t.0 t.1) ∙ f;
  only = λ other d. sym (all_events bytes other d) ∙ f;
}

pub is_fault : (bytes : List ℕ) (x : Fault) (sent : List Event) → (document_read (lines bytes)).0 ≡ Err x → (document_read (lines bytes)).1 ≡ sent
    → IsTheFault bytes x sent
is_fault bytes x sent e f = record {
  first = first_fault (lines bytes) x e;
  no_document = λ tree d. ok_is_err (sym (ap (λ (t : Turn State). t.0) (complete bytes tree d).is) ∙ e);
  events = subst (AreEventsBefore (lines bytes) x.line) f (events_at_fault bytes x e);
}
