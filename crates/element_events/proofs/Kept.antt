-- What is kept stands for the calls so far.
use Rattle.std.proofs.Common.{◌≡◌, ℕ, ◌==◌, ◌∙◌, Bool, true, false, ◌&&◌, List, [], ◌∷◌, ◌++◌, Option, Some, None, Ok, Err, inl, inr, refl, sym, ap, subst}
use Rattle.std.proofs.lemmas.List.{append-nil}
use Rattle.std.proofs.lemmas.Bool.{and_parts}
use Rattle.std.proofs.Math.Dec.{eqb-suc-zero}
use Rattle.std.specs.Prelude.{zero, suc}
use Rattle.rng_model.proofs.Truths.{no_truth}
use Rattle.rng_model.specs.documents.PyxTrees.{Event, Placed}
use Rattle.rng_model.specs.documents.Telling.{events_at, string_at, BeginToTell, NoneBegins, TellsTheDocument, TellsDocument}
use Rattle.element_events.specs.plain.Calls as plain
use Rattle.element_events.specs.plain.Calls.{AreTaken, after, is_misplaced, none_taken, one_more, nothing_taken}
use Rattle.element_events.specs.views.Kept.{Kept, Stands, IsAfter, IsPassed, IsTaken, IsRefused, IsWhole, Takes, TakesText, Adds, Extends, IsVerdict}
use Rattle.element_events.specs.views.Told.{UnlessOutOfMemory}
use Rattle.element_events.specs.declared.fault.EventFault.{EventFault}
use Rattle.element_events.specs.declared.fault.EventFault.TheVariants as faults
use Rattle.element_events.proofs.Passed.{IsTag, after_tag, events_of_tag, some_passed, whole_itself}
use Rattle.element_events.proofs.Taken.{begins, none_more, whole, misplaced, not_good, none_tells, unfinished}

pub stands_new : (k : Kept) → k.state ≡ nothing_taken → k.passed ≡ None → k.fault ≡ None → Stands k [] []
stands_new k e p f = rw (f, p, e) (nothing_taken, whole_itself nothing_taken, none_taken)

-- a state without a fault
pub working : (k : Kept) (calls sent : List Event) → k.fault ≡ None → Stands k calls sent
    → (t : plain.State) × IsWhole k.passed k.state t × AreTaken calls t sent
working k calls sent f s = subst (λ (o : Option EventFault). IsAfter o k.passed k.state calls sent) f s

still_working : (k : Kept) (calls sent : List Event) → k.fault ≡ None → (t : plain.State) × IsWhole k.passed k.state t × AreTaken calls t sent
    → Stands k calls sent
still_working k calls sent f a = subst (λ (o : Option EventFault). IsAfter o k.passed k.state calls sent) (sym f) a

pub stands_begins : (k : Kept) → k.fault ≡ None → (calls sent : List Event) → Stands k calls sent → BeginToTell calls sent
stands_begins k f calls sent s = begins (working k calls sent f s).2

-- a start or an end
pub taken : (handed : List Event → Type 0) (h k : Kept) (c : Event) (old new : plain.State) → old ≡ h.state → new ≡ k.state → h.fault ≡ None → k.fault ≡ None →
    k.passed ≡ None → IsTag c.kind → IsTaken c old new handed → Extends handed h k c
taken handed h k c old new p q f g none tag t = (
  events_at c.line c.kind old.text,
  t.events,
  λ calls sent s.
      let w = working h calls sent f s in
      let whole = subst (λ (x : plain.State). IsWhole h.passed x w.0) (sym p) w.1 in
      let events = events_of_tag whole c.line c.kind tag in
      let after_it : after c.kind w.0 ≡ k.state = after_tag c.kind old w.0 tag whole.depth whole.root ∙ sym t.state ∙ q in
      let placed = ap (λ d. is_misplaced c.kind d w.0.root) whole.depth ∙ ap (is_misplaced c.kind old.depth) whole.root ∙ t.placed in (
        whole.behind,
        whole.is_passed,
        still_working k (calls ++ c ∷ []) (sent ++ (string_at c.line whole.behind ++ events_at c.line c.kind old.text)) g (
          k.state,
          subst (λ (o : Option Bool). IsWhole o k.state k.state) (sym none) (whole_itself k.state),
          one_more c w.2 t.good placed refl (sym after_it) (ap (λ es. sent ++ es) (sym events)),
        ),
      ),
)

-- a text
pub text_taken : (h k : Kept) (c : Event) (x : Unit) (p q : Option Bool) (old new : plain.State) → old ≡ h.state → new ≡ k.state → p ≡ h.passed → q ≡ k.passed
    → h.fault ≡ None → k.fault ≡ None → ((text : List ℕ) → events_at c.line c.kind text ≡ []) → TakesText (Ok x) c p old q new → Adds h k c
text_taken h k c x p q old new a b d e f g nothing t = λ calls sent s.
    let w = working h calls sent f s in
    let whole = subst (λ (o : Option Bool). IsWhole o old w.0) (sym d) (subst (λ (x : plain.State). IsWhole h.passed x w.0) (sym a) w.1) in
    let placed = ap (λ d. is_misplaced c.kind d w.0.root) whole.depth ∙ ap (is_misplaced c.kind old.depth) whole.root ∙ t.1 in
    still_working k (calls ++ c ∷ []) sent g (
      after c.kind w.0,
      subst (λ (o : Option Bool). IsWhole o k.state (after c.kind w.0)) e (subst (λ (x : plain.State). IsWhole q x (after c.kind w.0)) b (t.2 w.0 whole)),
      one_more c w.2 t.0 placed refl refl (sym (ap (λ es. sent ++ es) (nothing w.0.text) ∙ append-nil sent)),
    )

-- no document begins with a call that is refused
refused_begins : (calls sent : List Event) (c : Event) (old t : plain.State) → t.depth ≡ old.depth → t.root ≡ old.root → AreTaken calls t sent
    → IsRefused c old → NoneBegins (calls ++ c ∷ [])
refused_begins calls sent c old t d r a (inl bad) = not_good calls c bad
refused_begins calls sent c old t d r a (inr m) = misplaced a c (ap (λ n. is_misplaced c.kind n t.root) d ∙ ap (is_misplaced c.kind old.depth) r ∙ m)

refused_after : (h k : Kept) (c : Event) (old : plain.State) → old ≡ h.state → h.fault ≡ None → k.fault ≡ Some faults.NotWellFormed → IsRefused c old
    → (calls sent more : List Event) → Stands h calls sent → Stands k (calls ++ c ∷ []) more
refused_after h k c old p f g r calls sent more s =
    let w = working h calls sent f s in
    subst (λ (o : Option EventFault). IsAfter o k.passed k.state (calls ++ c ∷ []) more) (sym g)
    (refused_begins calls sent c old w.0 (w.1.depth ∙ ap (λ (x : plain.State). x.depth) (sym p)) (w.1.root ∙ ap (λ (x : plain.State). x.root) (sym p)) w.2 r)

-- a text is the one that was passed over
behind_it : (h : Kept) (calls sent : List Event) → h.fault ≡ None → Stands h calls sent → (text : List ℕ) × IsPassed h.passed text
behind_it h calls sent f s = let w = working h calls sent f s in (w.1.behind, w.1.is_passed)

pub refused : (A : Type 0) (handed : List Event → Type 0) (h k : Kept) (c : Event) (old new : plain.State) (x : EventFault) → old ≡ h.state → h.fault ≡ None →
    k.fault ≡ Some x → Takes (Err x) c old new handed → UnlessOutOfMemory {A = A} (Err x) (Extends handed h k c)
refused A handed h k c old new faults.Memory p f g t = tt
refused A handed h k c old new faults.NotWellFormed p f g t = (
  [],
  t.1,
  λ calls sent s.
      let b = behind_it h calls sent f s in
      (b.0, b.1, refused_after h k c old p f g t.0 calls sent (sent ++ (string_at c.line b.0 ++ [])) s),
)

pub text_refused : (A : Type 0) (h k : Kept) (c : Event) (p q : Option Bool) (old new : plain.State) (x : EventFault) → old ≡ h.state → h.fault ≡ None →
    k.fault ≡ Some x → TakesText (Err x) c p old q new → UnlessOutOfMemory {A = A} (Err x) (Adds h k c)
text_refused A h k c p q old new faults.Memory a f g t = tt
text_refused A h k c p q old new faults.NotWellFormed a f g t = λ calls sent s. refused_after h k c old a f g t calls sent sent s

-- a call after one that was refused
pub stuck : (A : Type 0) (handed : List Event → Type 0) (k : Kept) (c : Event) (x : EventFault) → k.fault ≡ Some x → handed []
    → UnlessOutOfMemory {A = A} (Err x) (Extends handed k k c)
stuck A handed k c faults.Memory f none = tt
stuck A handed k c faults.NotWellFormed f none = (
  [],
  none,
  λ calls sent s.
      let text = some_passed k.passed in (
        text.0,
        text.1,
        subst (λ (o : Option EventFault). IsAfter o k.passed k.state (calls ++ c ∷ []) (sent ++ (string_at c.line text.0 ++ []))) (sym f)
            (none_more calls c (subst (λ (o : Option EventFault). IsAfter o k.passed k.state calls sent) f s)),
      ),
)

pub verdict_stuck : (A : Type 0) (k : Kept) (x : EventFault) → k.fault ≡ Some x → (calls sent : List Event) → Stands k calls sent →
    IsVerdict {A = A} (Err x) calls sent
verdict_stuck A k faults.Memory f calls sent s = tt
verdict_stuck A k faults.NotWellFormed f calls sent s =
    none_tells calls (subst (λ (o : Option EventFault). IsAfter o k.passed k.state calls sent) f s)

none_open : (d : ℕ) → (d == 0) ≡ true → d ≡ 0
none_open zero e = refl
none_open (suc d) e = no_truth (sym (eqb-suc-zero d) ∙ e)

pub verdict_whole : (k : Kept) (s : plain.State) → s ≡ k.state → k.fault ≡ None → (s.root && s.depth == 0) ≡ true → (calls sent : List Event) →
    Stands k calls sent → TellsTheDocument calls sent
verdict_whole k s p f e calls sent t =
    let b = and_parts s.root (s.depth == 0) e in
    let w = working k calls sent f t in
    whole w.2 (w.1.depth ∙ ap (λ (x : plain.State). x.depth) (sym p) ∙ none_open s.depth b.1) (w.1.root ∙ ap (λ (x : plain.State). x.root) (sym p) ∙ b.0)

pub verdict_none : (k : Kept) (s : plain.State) → s ≡ k.state → k.fault ≡ None → (s.root && s.depth == 0) ≡ false → (calls sent : List Event) →
    Stands k calls sent → (tree : Placed) → TellsDocument calls tree → ⊥
verdict_none k s p f e calls sent t tree d =
    let w = working k calls sent f t in
    let depth = w.1.depth ∙ ap (λ (x : plain.State). x.depth) (sym p) in
    let root = w.1.root ∙ ap (λ (x : plain.State). x.root) (sym p) in
    unfinished w.2 (ap (λ b. b && w.0.depth == 0) root ∙ ap (λ n. s.root && n == 0) depth ∙ e) tree d
