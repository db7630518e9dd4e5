-- Turns, one after the other, and how a piece is read line by line.
use Rattle.std.proofs.Common.{◌≡◌, ℕ, List, [], ◌∷◌, ◌++◌, Result, Ok, Err, refl, ap, sym, ◌∙◌, append_assoc}
use Rattle.std.proofs.lemmas.List.{append-nil}
use Rattle.rng_model.specs.documents.Lines.{Fault}
use Rattle.rng_model.specs.documents.PyxTrees.{Event}
use Rattle.rng_model.specs.declared.pyx_fault.PyxFault.{PyxFault}
use Rattle.rng_model.specs.declared.pyx_fault.PyxFault.TheVariants as pyx
use Rattle.pyx.specs.plain.DocumentReader.{Turn, after_events, go_on, followed}
use Rattle.pyx.specs.plain.Pieces.{Progress, byte_read, read}
use Rattle.pyx.specs.views.View.{Takes}
use Rattle.rng_model.specs.documents.EventViews.{Hands}

pub sent_before : {A B : Type 0} (r : Result A Fault) (fs es : List Event) (g : A → Turn B) → go_on r (es ++ fs) g ≡ after_events es (go_on r fs g)
sent_before {B = B} (Ok s) fs es g = ap (λ (x : List Event). let r : Turn B = ((g s).0, x) in r) (append_assoc es fs (g s).1)
sent_before (Err e) fs es g = refl

pub followed_same : {A B : Type 0} (t : Turn A) (f g : A → Turn B) → ((s : A) → f s ≡ g s) → followed t f ≡ followed t g
followed_same {A = A} {B = B} t f g h = by_result t.0 t.1 where
  by_result : (r : Result A Fault) (es : List Event) → go_on r es f ≡ go_on r es g
  by_result (Ok s) es = ap (after_events es) (h s)
  by_result (Err e) es = refl

pub followed_twice : {A B C : Type 0} (t : Turn A) (f : A → Turn B) (g : B → Turn C) → followed (followed t f) g ≡ followed t (λ s. followed (f s) g)
followed_twice {A = A} {B = B} {C = C} t f g = by_result t.0 t.1 where
  by_result : (r : Result A Fault) (es : List Event) → followed (go_on r es f) g ≡ go_on r es (λ s. followed (f s) g)
  by_result (Ok s) es = sent_before (f s).0 (f s).1 es g
  by_result (Err e) es = refl

pub followed_ok : {A B : Type 0} (turn : Turn A) (s : A) (f : A → Turn B) → turn.0 ≡ Ok s → followed turn f ≡ after_events turn.1 (f s)
followed_ok turn s f e = rw e refl

pub followed_err : {A B : Type 0} (turn : Turn A) (e : Fault) (f : A → Turn B) → turn.0 ≡ Err e → followed turn f ≡ (Err e, turn.1)
followed_err turn e f h = rw h refl

pub after_twice : {A : Type 0} (es fs : List Event) (t : Turn A) → after_events es (after_events fs t) ≡ after_events (es ++ fs) t
after_twice {A = A} es fs t = ap (λ (x : List Event). let r : Turn A = (t.0, x) in r) (sym (append_assoc es fs t.1))

-- what is read in two pieces is read in one
pub read_append : (xs ys : List ℕ) (p : Progress) → read (xs ++ ys) p ≡ followed (read xs p) (read ys)
unfolding read
read_append [] ys p = refl
read_append (c ∷ xs) ys p = followed_same (byte_read c p) (read (xs ++ ys)) (λ t. followed (read xs t) (read ys)) (read_append xs ys)
    ∙ sym (followed_twice (byte_read c p) (read xs) (read ys))

-- ---- the events that are handed out

pub hands_nothing : {E : Type 0} (stands : E → E → List Event → Type 0) (e : E) → Hands stands e e []
hands_nothing stands e first sent h = rw append-nil h

pub hands_more : {E : Type 0} (stands : E → E → List Event → Type 0) (a b c : E) (es fs : List Event) → Hands stands a b es → Hands stands b c fs →
    Hands stands a c (es ++ fs)
hands_more stands a b c es fs h k first sent x = rw (← append_assoc) (k first (sent ++ es) (h first sent x))

-- ---- a piece, line by line

-- what is read so far, and the rest, is the whole
pub record Goes (handed : List Event → Type 0) (whole : Turn Progress) (rest : List ℕ) (p : Progress) : Type 0 where
  pub sent : List Event
  pub handed_out : handed sent
  pub on : whole ≡ after_events sent (read rest p)

pub starts : {E : Type 0} (stands : E → E → List Event → Type 0) (e : E) (piece : List ℕ) (p : Progress) → Goes (Hands stands e e) (read piece p) piece p
starts stands e piece p = record { sent = []; handed_out = hands_nothing stands e; on = refl }

-- one turn reads the front of the rest, without a fault
pub goes_on : {E : Type 0} (stands : E → E → List Event → Type 0) (a b d : E) (whole turn : Turn Progress) (bytes rest : List ℕ) (p q : Progress) →
    read bytes p ≡ followed turn (read rest) → Goes (Hands stands a b) whole bytes p → (turn.0 ≡ Ok q) × Hands stands b d turn.1 →
    Goes (Hands stands a d) whole rest q
goes_on stands a b d whole turn bytes rest p q step g t = record {
  sent = g.sent ++ turn.1;
  handed_out = hands_more stands a b d g.sent turn.1 g.handed_out t.1;
  on = g.on ∙ ap (after_events g.sent) (step ∙ followed_ok turn q (read rest) t.0) ∙ after_twice g.sent turn.1 (read rest q);
}

-- or with a fault
pub fails : (A : Type 0) {E : Type 0} (stands : E → E → List Event → Type 0) (a b d : E) (whole turn : Turn Progress) (bytes rest : List ℕ) (p new : Progress)
    (e : PyxFault) → read bytes p ≡ followed turn (read rest) → Goes (Hands stands a b) whole bytes p → Takes {A = A} (Err e) new (Hands stands b d) turn →
    Takes {A = A} (Err e) new (Hands stands a d) whole
fails A stands a b d whole turn bytes rest p new pyx.Memory step g t = tt
fails A stands a b d whole turn bytes rest p new (pyx.At clause line) step g t =
    let x : Fault = record { clause = clause; line = line } in
    let k : whole ≡ (Err x, g.sent ++ turn.1) = g.on ∙ ap (after_events g.sent) (step ∙ followed_err turn x (read rest) t.0) in
    rw k (refl, hands_more stands a b d g.sent turn.1 g.handed_out t.1)

-- one turn reads the rest
pub ends : (A : Type 0) {E : Type 0} (stands : E → E → List Event → Type 0) (a b d : E) (whole turn : Turn Progress) (bytes : List ℕ) (p new : Progress)
    (r : Result A PyxFault) → read bytes p ≡ turn → Goes (Hands stands a b) whole bytes p → Takes r new (Hands stands b d) turn →
    Takes r new (Hands stands a d) whole
ends A stands a b d whole turn bytes p new (Ok x) step g t =
    let k : whole ≡ after_events g.sent turn = g.on ∙ ap (after_events g.sent) step in
    rw k (t.0, hands_more stands a b d g.sent turn.1 g.handed_out t.1)
ends A stands a b d whole turn bytes p new (Err pyx.Memory) step g t = tt
ends A stands a b d whole turn bytes p new (Err (pyx.At clause line)) step g t =
    let k : whole ≡ after_events g.sent turn = g.on ∙ ap (after_events g.sent) step in
    rw k (t.0, hands_more stands a b d g.sent turn.1 g.handed_out t.1)
