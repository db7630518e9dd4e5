-- What the events that were handed out are after each call.
use Rattle.std.proofs.Common.{◌≡◌, ℕ, ◌+◌, ◌-◌, ◌==◌, ◌∙◌, Bool, true, false, cond, ◌&&◌, not, List, [], ◌∷◌, ◌++◌, refl, sym, ap, subst, append_assoc, arith}
use Rattle.std.specs.Prelude.{zero, suc}
use Rattle.std.proofs.lemmas.List.{append-nil}
use Rattle.std.specs.List.{AllByRecursion}
use Rattle.rng_model.proofs.Truths.{no_truth}
use Rattle.rng_model.specs.names.Names.{Name}
use Rattle.rng_model.specs.datatypes.Texts.{is_blank}
use Rattle.rng_model.specs.matching.Document.{Attribute, Distinct}
use Rattle.rng_model.specs.documents.PyxTrees.{Event, EventKind, a_start, a_string, an_end}
use Rattle.rng_model.specs.documents.Telling.{IsGood, string_at, text_told, depth_after, text_after, events_at, events_behind, events_told}
use Rattle.element_events.specs.plain.Calls.{State, after, root_after, is_misplaced, AreTaken, none_taken, one_more}
use Rattle.element_events.proofs.Walks.{at_line}
use Rattle.element_events.proofs.Trees.{Leads, stays, at_start, at_string, at_end, lead_on}

-- so many elements are open, the root has begun or not, this text is not ended, and these events were handed out
pub data IsSent : ℕ → Bool → List ℕ → List Event → Type 0 where
  unbegun : IsSent zero false [] []
  begun : {d : ℕ} {text : List ℕ} {es : List Event} {q : Name} {xs : List Attribute} (e : Event) → e.kind ≡ a_start q xs → Distinct xs →
      Leads 1 false es d false → (d ≡ 0 → text ≡ []) → IsSent d true text (e ∷ es)

-- ---- tests

inside : (d : ℕ) → suc d ≡ 0 → ⊥
inside d e = absurd (omega arith)

-- ---- the events of one call

pub string_start : (n : ℕ) (text : List ℕ) (d m : ℕ) (q : Name) (xs : List Attribute) → Distinct xs →
    Leads (suc d) false (string_at n text ++ at_line m (a_start q xs) ∷ []) (suc (suc d)) false
string_start n [] d m q xs x = at_start refl x stays
string_start n (c ∷ cs) d m q xs x = at_string refl (λ e. cc) (at_start refl x stays)

pub string_end : (n : ℕ) (text : List ℕ) (d m : ℕ) → Leads (suc d) false (string_at n text ++ at_line m an_end ∷ []) d false
string_end n [] d m = at_end refl stays
string_end n (c ∷ cs) d m = at_string refl (λ e. cc) (at_end refl stays)

sent_start : (n : ℕ) (q : Name) (xs : List Attribute) (d : ℕ) (root : Bool) (text : List ℕ) (sent : List Event) → Distinct xs → (root && d == 0) ≡ false →
    IsSent d root text sent → IsSent (d + 1) true [] (sent ++ (string_at n text ++ at_line n (a_start q xs) ∷ []))
sent_start n q xs zero false text sent x m unbegun = begun (at_line n (a_start q xs)) refl x stays (λ e. refl)
sent_start n q xs zero root text sent x m (begun e i y l z) = no_truth (sym m)
sent_start n q xs (suc d) root text sent x m (begun {es = es} e i y l z) =
    let more : suc d + 1 ≡ suc (suc d) = omega arith in
    begun e i y (subst (λ (k : ℕ). Leads 1 false (es ++ (string_at n text ++ at_line n (a_start q xs) ∷ [])) k false) (sym more) (lead_on l
    (string_start n text d n q xs x))) (λ e. refl)

blank_told : (b : Bool) (s : List ℕ) → not b ≡ false → cond b [] s ≡ []
blank_told true s e = refl
blank_told false s e = no_truth (sym e)

sent_text : (s : List ℕ) (d : ℕ) (root : Bool) (text : List ℕ) (sent : List Event) → (d == 0 && not (is_blank s)) ≡ false → IsSent d root text sent →
    IsSent d root (text ++ text_told d s) sent
sent_text s zero root text sent m unbegun = rw (blank_told (is_blank s) s m) unbegun
sent_text s zero root text sent m (begun e i x l z) = rw (blank_told (is_blank s) s m, append-nil) (begun e i x l z)
sent_text s (suc d) root text sent m (begun e i x l z) = begun e i x l (λ e. absurd (inside d e))

sent_end : (n : ℕ) (d : ℕ) (root : Bool) (text : List ℕ) (sent : List Event) → (d == 0) ≡ false → IsSent d root text sent →
    IsSent (d - 1) root [] (sent ++ (string_at n text ++ at_line n an_end ∷ []))
sent_end n zero root text sent m s = no_truth (sym m)
sent_end n (suc d) root text sent m (begun {es = es} e i x l z) =
    let less : suc d - 1 ≡ d = omega arith in
    begun e i x (subst (λ (k : ℕ). Leads 1 false (es ++ (string_at n text ++ at_line n an_end ∷ [])) k false) (sym less) (lead_on l
    (string_end n text d n))) (λ e. refl)

sent_more : (n : ℕ) (k : EventKind) (s : State) (sent : List Event) → IsGood k → is_misplaced k s.depth s.root ≡ false → IsSent s.depth s.root s.text sent →
    IsSent (depth_after k s.depth) (root_after k s.root) (text_after k s.depth s.text) (sent ++ events_at n k s.text)
sent_more n (a_start q xs) s sent g m h = sent_start n q xs s.depth s.root s.text sent g.2 m h
sent_more n (a_string t) s sent g m h = rw append-nil (sent_text t s.depth s.root s.text sent m h)
sent_more n an_end s sent g m h = sent_end n s.depth s.root s.text sent m h

-- ---- all calls

pub is_sent : {calls sent : List Event} {s : State} → AreTaken calls s sent → IsSent s.depth s.root s.text sent
is_sent none_taken = unbegun
is_sent (one_more {calls} {all} {sent} {out} {s} {t} c a g m p q r) = step t out q r (sent_more c.line c.kind s sent g m (is_sent a)) where
  step : (t : State) (out : List Event) → t ≡ after c.kind s → out ≡ sent ++ events_at c.line c.kind s.text →
      IsSent (depth_after c.kind s.depth) (root_after c.kind s.root) (text_after c.kind s.depth s.text) (sent ++ events_at c.line c.kind s.text) →
      IsSent t.depth t.root t.text out
  step t out q r h = rw (q, r) h

told_step : (calls all sent out : List Event) (s t : State) (c : Event) → all ≡ calls ++ c ∷ [] → t ≡ after c.kind s →
    out ≡ sent ++ events_at c.line c.kind s.text → ((more : List Event) → events_told (calls ++ more) ≡ sent ++ events_behind s.depth s.text more) →
    (more : List Event) → events_told (all ++ more) ≡ out ++ events_behind t.depth t.text more
unfolding events_behind
told_step calls all sent out s t c p q r h more =
    rw (p, q, r) (ap events_told (append_assoc calls (c ∷ []) more) ∙ h (c ∷ more) ∙ sym (append_assoc sent (events_at c.line c.kind s.text) _))

-- what the calls tell: the events that were handed out, and those of the calls that follow
pub told_more : {calls sent : List Event} {s : State} → AreTaken calls s sent → (more : List Event) →
    events_told (calls ++ more) ≡ sent ++ events_behind s.depth s.text more
told_more none_taken more = refl
told_more (one_more {calls} {all} {sent} {out} {s} {t} c a g m p q r) more = told_step calls all sent out s t c p q r (told_more a) more

abbrev pub AreGood : List Event → Type 0
AreGood calls = AllByRecursion (λ (c : Event). IsGood c.kind) calls

pub good_append : (xs ys : List Event) → AreGood xs → AreGood ys → AreGood (xs ++ ys)
good_append [] ys g h = h
good_append (x ∷ xs) ys g h = (g.0, good_append xs ys g.1 h)

pub good_behind : (xs ys : List Event) → AreGood (xs ++ ys) → AreGood ys
good_behind [] ys g = g
good_behind (x ∷ xs) ys g = good_behind xs ys g.1

pub are_good : {calls sent : List Event} {s : State} → AreTaken calls s sent → AreGood calls
are_good none_taken = tt
are_good (one_more {calls} c a g m p q r) = subst AreGood (sym p) (good_append calls (c ∷ []) (are_good a) (g, tt))
