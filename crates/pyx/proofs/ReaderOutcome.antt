-- The outcome of a reader, for all bytes that it represents.
use Rattle.std.proofs.Common.{◌≡◌, ℕ, List, [], ◌++◌, Some, None, Result, Ok, Err, refl, ap, sym, subst, ◌∙◌}
use Rattle.std.proofs.lemmas.List.{append-nil}
use Rattle.rng_model.specs.documents.Lines.{lines, Fault}
use Rattle.rng_model.specs.documents.PyxTrees.{Event}
use Rattle.rng_model.specs.declared.pyx_fault.PyxFault.{PyxFault}
use Rattle.rng_model.specs.declared.pyx_fault.PyxFault.TheVariants as pyx
use Rattle.pyx.specs.plain.DocumentReader.{State, Turn, after_events, followed, document_read}
use Rattle.rng_model.specs.documents.Documents.{IsTheDocument, IsTheFault}
use Rattle.pyx.specs.plain.Pieces.{Progress, read, finished, nothing_fed}
use Rattle.pyx.specs.views.ReaderAfterPiece.{Kept, Stands}
use Rattle.pyx.specs.views.Calls.{UnlessOutOfMemory, Ends, IsFaultAfter}
use Rattle.pyx.specs.views.View.{Concludes}
use Rattle.rng_model.specs.documents.EventViews.{Hands}
use Rattle.pyx.proofs.Input.ReaderAfterPiece.{at_fault, ok_progress, stuck_more}
use Rattle.pyx.proofs.Input.LineTurns.{followed_ok, hands_nothing}
use Rattle.pyx.proofs.Events.WholeVerdict.{is_document, is_fault}
use Rattle.pyx.proofs.Input.WholeBytes.{in_pieces}

whole : (k : Kept) (p : Progress) (bytes : List ℕ) (sent : List Event) → p ≡ k.progress → k.fault ≡ None → Stands k bytes sent
    → document_read (lines bytes) ≡ after_events sent (finished p)
whole k p bytes sent e f st =
    let q : (read bytes nothing_fed).0 ≡ Ok p = at_fault k None (read bytes nothing_fed).0 f st.result ∙ ap ok_progress (sym e) in
    in_pieces bytes ∙ followed_ok (read bytes nothing_fed) p finished q ∙ ap (λ (es : List Event). after_events es (finished p)) st.events

-- the verdict on bytes with this result
verdict_at : (bytes : List ℕ) (sent : List Event) (p : Progress) (s : State) → document_read (lines bytes) ≡ after_events sent (finished p)
    → (finished p).0 ≡ Ok s → IsTheDocument bytes (sent ++ (finished p).1)
verdict_at bytes sent p s e f = is_document bytes s (sent ++ (finished p).1) (ap (λ (t : Turn State). t.0) e ∙ f) (ap (λ (t : Turn State). t.1) e)

fault_at : (bytes : List ℕ) (sent : List Event) (p : Progress) (x : Fault) → document_read (lines bytes) ≡ after_events sent (finished p)
    → (finished p).0 ≡ Err x → IsTheFault bytes x (sent ++ (finished p).1)
fault_at bytes sent p x e f = is_fault bytes x (sent ++ (finished p).1) (ap (λ (t : Turn State). t.0) e ∙ f) (ap (λ (t : Turn State). t.1) e)

pub finishes : (A : Type 0) (handed : List Event → Type 0) (k : Kept) (p : Progress) (r : Result A PyxFault) → p ≡ k.progress → k.fault ≡ None
    → Concludes r handed (finished p) → UnlessOutOfMemory r (Ends handed k r)
finishes A handed k p (Ok x) e f c =
    ((finished p).1, c.1, λ bytes sent st. verdict_at bytes sent p c.0.0 (whole k p bytes sent e f st) c.0.1)
finishes A handed k p (Err pyx.Memory) e f c = tt
finishes A handed k p (Err (pyx.At clause line)) e f c =
    ((finished p).1, c.1, λ bytes sent st. fault_at bytes sent p (record { clause = clause; line = line }) (whole k p bytes sent e f st) c.0)

again : (t : Turn Progress) (x : Fault) (es : List Event) → t ≡ (Err x, es) → followed t finished ≡ (Err x, es)
again t x es e = rw e refl

pub is_fault_after : (k : Kept) (x : PyxFault) → k.fault ≡ Some x → IsFaultAfter k x
is_fault_after k pyx.Memory f = tt
is_fault_after k (pyx.At clause line) f = λ bytes sent st rest.
    let x : Fault = record { clause = clause; line = line } in
    let q : (read bytes nothing_fed).0 ≡ Err x = at_fault k (Some (pyx.At clause line)) (read bytes nothing_fed).0 f st.result in
    let all : document_read (lines (bytes ++ rest)) ≡ (Err x, (read bytes nothing_fed).1) = in_pieces (bytes ++ rest)
    ∙ again (read (bytes ++ rest) nothing_fed) x (read bytes nothing_fed).1 (stuck_more bytes rest x q) in
    is_fault (bytes ++ rest) x sent (ap (λ (t : Turn State). t.0) all) (ap (λ (t : Turn State). t.1) all ∙ st.events)

pub finishes_stuck : (A : Type 0) {E : Type 0} (stands : E → E → List Event → Type 0) (taker : E) (k : Kept) (x : PyxFault) → k.fault ≡ Some x
    → UnlessOutOfMemory {A = A} (Err x) (Ends {A = A} (Hands stands taker taker) k (Err x))
finishes_stuck A stands taker k pyx.Memory f = tt
finishes_stuck A stands taker k (pyx.At clause line) f = (
  [],
  hands_nothing stands taker,
  λ bytes sent st.
      let x : Fault = record { clause = clause; line = line } in
      let w = is_fault_after k (pyx.At clause line) f bytes sent st [] in
      subst (IsTheFault bytes x) (sym (append-nil sent)) (subst (λ (b : List ℕ). IsTheFault b x sent) (append-nil bytes) w),
)
