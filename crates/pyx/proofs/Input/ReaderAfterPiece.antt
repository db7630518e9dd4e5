-- The bytes and events that a reader represents after a piece.
use Rattle.std.proofs.Common.{◌≡◌, ℕ, List, [], ◌++◌, Option, Some, None, Result, Ok, Err, refl, ap, sym, ◌∙◌, subst}
use Rattle.std.proofs.lemmas.List.{append-nil}
use Rattle.rng_model.specs.documents.Lines.{Fault}
use Rattle.rng_model.specs.documents.PyxTrees.{Event}
use Rattle.rng_model.specs.declared.pyx_fault.PyxFault.{PyxFault}
use Rattle.rng_model.specs.declared.pyx_fault.PyxFault.TheVariants as pyx
use Rattle.pyx.specs.plain.DocumentReader.{after_events}
use Rattle.pyx.specs.plain.Pieces.{Progress, read, nothing_fed}
use Rattle.pyx.specs.views.ReaderAfterPiece.{Kept, Stands, result_of}
use Rattle.pyx.specs.views.Calls.{Extends, UnlessOutOfMemory}
use Rattle.pyx.specs.views.View.{Takes}
use Rattle.rng_model.specs.documents.EventViews.{Hands}
use Rattle.pyx.proofs.Input.LineTurns.{read_append, followed_ok, followed_err, hands_nothing}

ok_more : (bytes more : List ℕ) (p : Progress) → (read bytes nothing_fed).0 ≡ Ok p
    → read (bytes ++ more) nothing_fed ≡ after_events (read bytes nothing_fed).1 (read more p)
ok_more bytes more p e = read_append bytes more nothing_fed ∙ followed_ok (read bytes nothing_fed) p (read more) e

pub stuck_more : (bytes more : List ℕ) (x : Fault) → (read bytes nothing_fed).0 ≡ Err x → read (bytes ++ more) nothing_fed ≡ (Err x, (read bytes nothing_fed).1)
stuck_more bytes more x e = read_append bytes more nothing_fed ∙ followed_err (read bytes nothing_fed) x (read more) e

pub stands_new : (h : Kept) → h.progress ≡ nothing_fed → h.fault ≡ None → Stands h [] []
unfolding read
stands_new h e f = record { result = rw (e, f) refl; events = refl }

pub at_fault : (h : Kept) (o : Option PyxFault) (r : Result Progress Fault) → h.fault ≡ o → result_of h.progress h.fault r → result_of h.progress o r
at_fault h o r e k = subst (λ (x : Option PyxFault). result_of h.progress x r) e k

abbrev pub ok_progress : Progress → Result Progress Fault
ok_progress p = Ok p

pub fed_ok : (handed : List Event → Type 0) (h k : Kept) (piece : List ℕ) (p : Progress) → p ≡ h.progress → h.fault ≡ None → k.fault ≡ None
    → ((read piece p).0 ≡ Ok k.progress) × handed (read piece p).1 → Extends handed h k piece
fed_ok handed h k piece p e f g t = (
  (read piece p).1,
  t.1,
  λ bytes sent st.
      let q : (read bytes nothing_fed).0 ≡ Ok p = at_fault h None (read bytes nothing_fed).0 f st.result ∙ ap ok_progress (sym e) in
      let all = ok_more bytes piece p q in
      record { result = rw (g, all) t.0; events = rw (all, st.events) refl },
)

pub fed_err : (A : Type 0) (handed : List Event → Type 0) (h k : Kept) (piece : List ℕ) (p new : Progress) (x : PyxFault) → p ≡ h.progress → h.fault ≡ None
    → k.fault ≡ Some x → Takes {A = A} (Err x) new handed (read piece p) → UnlessOutOfMemory {A = A} (Err x) (Extends handed h k piece)
fed_err A handed h k piece p new pyx.Memory e f g t = tt
fed_err A handed h k piece p new (pyx.At clause line) e f g t = (
  (read piece p).1,
  t.1,
  λ bytes sent st.
      let q : (read bytes nothing_fed).0 ≡ Ok p = at_fault h None (read bytes nothing_fed).0 f st.result ∙ ap ok_progress (sym e) in
      let all = ok_more bytes piece p q in
      record { result = rw (g, all) t.0; events = rw (all, st.events) refl },
)

pub fed_stuck : (A : Type 0) {E : Type 0} (stands : E → E → List Event → Type 0) (taker : E) (h : Kept) (piece : List ℕ) (x : PyxFault) → h.fault ≡ Some x
    → UnlessOutOfMemory {A = A} (Err x) (Extends (Hands stands taker taker) h h piece)
fed_stuck A stands taker h piece pyx.Memory f = tt
fed_stuck A stands taker h piece (pyx.At clause line) f = (
  [],
  hands_nothing stands taker,
  λ bytes sent st.
      let all = stuck_more bytes piece (record { clause = clause; line = line }) (at_fault h (Some (pyx.At clause line)) (read bytes nothing_fed).0 f
      st.result) in
      record { result = rw (f, all) refl; events = rw (all, append-nil) st.events },
)
