-- What is before a call that stays: the calls up to it leave out texts too, however they go on.
use Rattle.std.proofs.Common.{◌≡◌, ℕ, List, [], ◌∷◌, ◌++◌, refl, sym, ap, ◌∙◌, subst, Bool, true, false, append_assoc}
use Rattle.std.specs.Prelude.{⊤}
use Rattle.std.proofs.lemmas.List.{append-nil}
use Rattle.std.specs.List.{AllByRecursion}
use Rattle.rng_model.specs.datatypes.Texts.{is_blank}
use Rattle.rng_model.specs.documents.PyxTrees.{Event, EventKind, a_start, a_string, an_end}
use Rattle.element_events.specs.views.Told.{call}
use Rattle.blank_strings.specs.LeftOutCalls.{AreTexts, no_text, text_and, IsTag, IsBeside, is_end, LeaveOutTexts, last_texts, texts_stay, texts_out}
use Rattle.blank_strings.proofs.Events.{all_in_place}

-- ---- nothing has to be left out

text_more : {run : List Event} (n : ℕ) (s : List ℕ) → AreTexts (λ s. ⊤) run → AreTexts (λ s. ⊤) (run ++ call n (a_string s) ∷ [])
text_more n s no_text = text_and tt no_text
text_more n s (text_and p a) = text_and tt (text_more n s a)

Stay : List Event → Type 0
Stay cs = (run : List Event) → AreTexts (λ s. ⊤) run → (b : Bool) → LeaveOutTexts b (run ++ cs) (run ++ cs)

one_stays : (n : ℕ) (k : EventKind) (cs : List Event) → Stay cs → Stay (call n k ∷ cs)
unfolding Stay
one_stays n (a_start q xs) cs stay run a b = texts_stay run n (a_start q xs) a tt (stay [] no_text false)
one_stays n (a_string s) cs stay run a b =
    subst (λ l. LeaveOutTexts b l l) (append_assoc run (call n (a_string s) ∷ []) cs) (stay (run ++ call n (a_string s) ∷ []) (text_more n s a) b)
one_stays n an_end cs stay run a b = texts_stay run n an_end a tt (stay [] no_text true)

all_stay : (cs : List Event) → Stay cs
unfolding Stay
all_stay [] run a b = subst (λ l. LeaveOutTexts b l l) (sym (append-nil run)) (last_texts a)
all_stay (c ∷ cs) run a b = one_stays c.line c.kind cs (all_stay cs) run a b

nothing_out : (b : Bool) (cs : List Event) → LeaveOutTexts b cs cs
unfolding Stay
nothing_out b cs = all_stay cs [] no_text b

-- ---- two places in a list

data Places (xs : List Event) (x : Event) (xs' ys : List Event) (y : Event) (ys' : List Event) : Type 0 where
  not_behind : (us : List Event) → xs ++ x ∷ [] ≡ ys ++ y ∷ us → Places xs x xs' ys y ys'
  behind : (us : List Event) → ys ≡ xs ++ x ∷ us → xs' ≡ us ++ y ∷ ys' → Places xs x xs' ys y ys'

both_later : (z : Event) (xs : List Event) (x : Event) (xs' ys : List Event) (y : Event) (ys' : List Event) → Places xs x xs' ys y ys'
    → Places (z ∷ xs) x xs' (z ∷ ys) y ys'
both_later z xs x xs' ys y ys' (not_behind us e) = not_behind us (ap (λ l. z ∷ l) e)
both_later z xs x xs' ys y ys' (behind us e f) = behind us (ap (λ l. z ∷ l) e) f

places : (xs : List Event) (x : Event) (xs' ys : List Event) (y : Event) (ys' : List Event) → xs ++ x ∷ xs' ≡ ys ++ y ∷ ys' → Places xs x xs' ys y ys'
places [] x xs' [] y ys' e = let h : x ≡ y = cc in not_behind [] (ap (λ z. z ∷ []) h)
places [] x xs' (z ∷ ys) y ys' e =
    let h : z ≡ x = cc in
    let t : xs' ≡ ys ++ y ∷ ys' = cc in
    behind ys (ap (λ z. z ∷ ys) h) t
places (w ∷ xs) x xs' [] y ys' e = let h : w ≡ y = cc in not_behind (xs ++ x ∷ []) (ap (λ z. z ∷ (xs ++ x ∷ [])) h)
places (w ∷ xs) x xs' (z ∷ ys) y ys' e =
    let h : w ≡ z = cc in
    let t : xs ++ x ∷ xs' ≡ ys ++ y ∷ ys' = cc in
    subst (λ z. Places (w ∷ xs) x xs' (z ∷ ys) y ys') h (both_later w xs x xs' ys y ys' (places xs x xs' ys y ys' t))

-- ---- the calls before a call that stays

module _ (P : Event → Type 0) (of_texts : (n : ℕ) (s : List ℕ) → P (call n (a_string s))) where
  -- The calls up to this one. Without texts they are those before it, however they go on. P holds of them if it holds of
  -- those.
  pub record Front (b : Bool) (calls before : List Event) (c : Event) : Type 0 where
    pub front : List Event
    pub behind : List Event
    pub parts : calls ≡ front ++ c ∷ behind
    pub again : (more : List Event) → LeaveOutTexts b (front ++ c ∷ more) (before ++ c ∷ more)
    pub so : AllByRecursion P before → AllByRecursion P front

  with_texts : {Q : List ℕ → Type 0} {run : List Event} → AreTexts Q run → (cs : List Event) → AllByRecursion P cs → AllByRecursion P (run ++ cs)
  with_texts no_text cs g = g
  with_texts (text_and {n} {s} p a) cs g = (of_texts n s, with_texts a cs g)

  -- of calls that go on as they are
  same_front : {b : Bool} (run : List Event) (x : Event) (cs before : List Event) (c : Event) (us : List Event) → run ++ x ∷ [] ≡ before ++ c ∷ us
      → Front b (run ++ x ∷ cs) before c
  same_front {b} run x cs before c us e = record {
    front = before;
    behind = us ++ cs;
    parts = sym (append_assoc run (x ∷ []) cs) ∙ ap (λ l. l ++ cs) e ∙ append_assoc before (c ∷ us) cs;
    again = λ more. nothing_out b (before ++ c ∷ more);
    so = λ g. g;
  }

  stay_before : {b : Bool} (run : List Event) (n : ℕ) (k : EventKind) (cs us : List Event) (c : Event) → AreTexts (λ s. ⊤) run → IsTag k
      → Front (is_end k) cs us c → Front b (run ++ call n k ∷ cs) (run ++ call n k ∷ us) c
  stay_before {b} run n k cs us c a t f = record {
    front = run ++ call n k ∷ f.front;
    behind = f.behind;
    parts = ap (λ l. run ++ call n k ∷ l) f.parts ∙ sym (append_assoc run (call n k ∷ f.front) (c ∷ f.behind));
    again = λ more. rw (append_assoc run (call n k ∷ f.front) (c ∷ more), append_assoc run (call n k ∷ us) (c ∷ more)) (texts_stay run n k a t (f.again more));
    so = all_in_place P run (call n k ∷ us) (call n k ∷ f.front) (λ g. (g.0, f.so g.1));
  }

  out_before : {b : Bool} (run : List Event) (n : ℕ) (k : EventKind) (cs us : List Event) (c : Event) → AreTexts (λ s. is_blank s ≡ true) run → IsBeside b k
      → Front (is_end k) cs us c → Front b (run ++ call n k ∷ cs) (call n k ∷ us) c
  out_before {b} run n k cs us c a i f = record {
    front = run ++ call n k ∷ f.front;
    behind = f.behind;
    parts = ap (λ l. run ++ call n k ∷ l) f.parts ∙ sym (append_assoc run (call n k ∷ f.front) (c ∷ f.behind));
    again = λ more. rw (append_assoc run (call n k ∷ f.front) (c ∷ more)) (texts_out run n k a i (f.again more));
    so = λ g. with_texts a (call n k ∷ f.front) (g.0, f.so g.1);
  }

  -- the texts directly before this call are left out
  out_first : {b : Bool} (run : List Event) (n : ℕ) (k : EventKind) (cs : List Event) → AreTexts (λ s. is_blank s ≡ true) run → IsBeside b k
      → Front b (run ++ call n k ∷ cs) [] (call n k)
  out_first {b} run n k cs a i = record {
    front = run;
    behind = cs;
    parts = refl;
    again = λ more. texts_out run n k a i (nothing_out (is_end k) more);
    so = λ g. subst (AllByRecursion P) (append-nil run) (with_texts a [] tt);
  }

  Fronted : Bool → List Event → List Event → Type 0
  Fronted b calls rest = (before : List Event) (c : Event) (more : List Event) → rest ≡ before ++ c ∷ more → Front b calls before c

  stay_fronted : {b : Bool} (run : List Event) (n : ℕ) (k : EventKind) (cs ds : List Event) → AreTexts (λ s. ⊤) run → IsTag k → Fronted (is_end k) cs ds
      → (before : List Event) (c : Event) (more : List Event) → Places run (call n k) ds before c more → Front b (run ++ call n k ∷ cs) before c
  unfolding Fronted
  stay_fronted run n k cs ds a t f before c more (not_behind us e) = same_front run (call n k) cs before c us e
  stay_fronted {b} run n k cs ds a t f before c more (behind us d e) =
      subst (λ l. Front b (run ++ call n k ∷ cs) l c) (sym d) (stay_before run n k cs us c a t (f us c more e))

  out_fronted : (b : Bool) (run : List Event) (n : ℕ) (k : EventKind) (cs ds : List Event) → AreTexts (λ s. is_blank s ≡ true) run → IsBeside b k
      → Fronted (is_end k) cs ds → Fronted b (run ++ call n k ∷ cs) (call n k ∷ ds)
  unfolding Fronted
  out_fronted b run n k cs ds a i f [] c more e =
      let h : call n k ≡ c = cc in
      subst (λ c. Front b (run ++ call n k ∷ cs) [] c) h (out_first run n k cs a i)
  out_fronted b run n k cs ds a i f (x ∷ before) c more e =
      let h : call n k ≡ x = cc in
      let t : ds ≡ before ++ c ∷ more = cc in
      subst (λ x. Front b (run ++ call n k ∷ cs) (x ∷ before) c) h (out_before run n k cs before c a i (f before c more t))

  fronted : {b : Bool} {calls rest : List Event} → LeaveOutTexts b calls rest → Fronted b calls rest
  unfolding Fronted
  fronted {b} (last_texts a) before c more e =
      record { front = before; behind = more; parts = e; again = λ more. nothing_out b (before ++ c ∷ more); so = λ g. g }
  fronted (texts_stay {cs = cs} {ds = ds} run n k a t o) before c more e =
      stay_fronted run n k cs ds a t (fronted o) before c more (places run (call n k) ds before c more e)
  fronted (texts_out {cs = cs} {ds = ds} run n k a i o) before c more e = out_fronted _ run n k cs ds a i (fronted o) before c more e

  pub front_of : {b : Bool} {calls rest : List Event} → LeaveOutTexts b calls rest → (before : List Event) (c : Event) (more : List Event)
      → rest ≡ before ++ c ∷ more → Front b calls before c
  unfolding Fronted
  front_of o before c more e = fronted o before c more e
