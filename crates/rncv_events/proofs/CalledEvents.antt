-- By which call an event came.
use Rattle.std.proofs.Common.{◌≡◌, ◌∙◌, ℕ, List, [], ◌∷◌, ◌++◌, All, false, refl, sym, ap, subst, append_assoc}
use Rattle.std.specs.List.{AllByRecursion}
use Rattle.std.proofs.lemmas.List.Elements.{All-from_recursion, recursion_from_All}
use Rattle.rng_model.specs.documents.PyxTrees.{Event, EventKind, a_start, a_string, an_end}
use Rattle.rng_model.specs.documents.Telling.{IsGood, events_at}
use Rattle.element_events.specs.views.Told.{call}
use Rattle.element_events.specs.plain.Calls.{State, after, is_misplaced, AreTaken, none_taken, one_more}

-- ---- lists in parts

front_all : (P : Event → Type 0) (xs ys : List Event) → AllByRecursion P (xs ++ ys) → AllByRecursion P xs
front_all P [] ys h = tt
front_all P (x ∷ xs) ys h = (h.0, front_all P xs ys h.1)

rest_all : (P : Event → Type 0) (xs ys : List Event) → AllByRecursion P (xs ++ ys) → AllByRecursion P ys
rest_all P [] ys h = h
rest_all P (x ∷ xs) ys h = rest_all P xs ys h.1

pub all_in_front : (P : Event → Type 0) (xs ys : List Event) → All P (xs ++ ys) → All P xs
all_in_front P xs ys h = All-from_recursion P xs (front_all P xs ys (recursion_from_All P (xs ++ ys) h))

both_all : (P : Event → Type 0) (xs ys : List Event) → AllByRecursion P xs → AllByRecursion P ys → AllByRecursion P (xs ++ ys)
both_all P [] ys h k = k
both_all P (x ∷ xs) ys h k = (h.0, both_all P xs ys h.1 k)

-- an event of two lists is in the first or in the second
data Side (xs ys before : List Event) (e : Event) (behind : List Event) : Type 0 where
  in_first : (rest : List Event) → xs ≡ before ++ e ∷ rest → Side xs ys before e behind
  in_second : (front : List Event) → before ≡ xs ++ front → ys ≡ front ++ e ∷ behind → Side xs ys before e behind

side_more : (x : Event) (xs ys before : List Event) (e : Event) (behind : List Event) → Side xs ys before e behind → Side (x ∷ xs) ys (x ∷ before) e behind
side_more x xs ys before e behind (in_first rest p) = in_first rest (ap (λ (l : List Event). x ∷ l) p)
side_more x xs ys before e behind (in_second front p q) = in_second front (ap (λ (l : List Event). x ∷ l) p) q

side : (xs ys before : List Event) (e : Event) (behind : List Event) → xs ++ ys ≡ before ++ e ∷ behind → Side xs ys before e behind
side [] ys before e behind p = in_second before refl p
side (x ∷ xs) ys [] e behind p = let same : x ≡ e = cc in in_first xs (ap (λ (y : Event). y ∷ xs) same)
side (x ∷ xs) ys (b ∷ before) e behind p =
    let same : x ≡ b = cc in
    let rest : xs ++ ys ≡ before ++ e ∷ behind = cc in
    subst (λ (y : Event). Side (x ∷ xs) ys (y ∷ before) e behind) same (side_more x xs ys before e behind (side xs ys before e behind rest))

-- ---- the events of one call

-- they have its place
have_place : (n : ℕ) (k : EventKind) (text : List ℕ) → AllByRecursion (λ (e : Event). e.line ≡ n) (events_at n k text)
have_place n (a_start q xs) [] = (refl, tt)
have_place n (a_start q xs) (c ∷ cs) = (refl, (refl, tt))
have_place n (a_string s) text = tt
have_place n an_end [] = (refl, tt)
have_place n an_end (c ∷ cs) = (refl, (refl, tt))

-- a claim that strings meet: the call meets it if its events do
call_meets : (P : EventKind → Type 0) → ((s : List ℕ) → P (a_string s)) → (n : ℕ) (k : EventKind) (text : List ℕ)
    → AllByRecursion (λ (e : Event). P e.kind) (events_at n k text) → P k
call_meets P strings n (a_start q xs) [] h = h.0
call_meets P strings n (a_start q xs) (c ∷ cs) h = h.1.0
call_meets P strings n (a_string s) text h = strings s
call_meets P strings n an_end [] h = h.0
call_meets P strings n an_end (c ∷ cs) h = h.1.0

-- ---- the events of calls

-- a claim that strings meet: the calls meet it if their events do
meets : (P : EventKind → Type 0) → ((s : List ℕ) → P (a_string s)) → {calls sent : List Event} {s : State} → AreTaken calls s sent
    → AllByRecursion (λ (e : Event). P e.kind) sent → AllByRecursion (λ (c : Event). P c.kind) calls
meets P strings none_taken h = tt
meets P strings (one_more {calls} {all} {sent} {out} {s} {t} c a good placed parts state outs) h =
    let parted = subst (AllByRecursion (λ (e : Event). P e.kind)) outs h in
    let last = call_meets P strings c.line c.kind s.text (rest_all (λ (e : Event). P e.kind) sent (events_at c.line c.kind s.text) parted) in
    subst (AllByRecursion (λ (c : Event). P c.kind)) (sym parts)
    (both_all (λ (c : Event). P c.kind) calls (c ∷ []) (meets P strings a (front_all (λ (e : Event). P e.kind) sent (events_at c.line c.kind s.text) parted)) (last, tt))

pub calls_meet : (P : EventKind → Type 0) → ((s : List ℕ) → P (a_string s)) → {calls sent : List Event} {s : State} → AreTaken calls s sent
    → All (λ (e : Event). P e.kind) sent → All (λ (c : Event). P c.kind) calls
calls_meet P strings {calls} {sent} a h =
    All-from_recursion (λ (c : Event). P c.kind) calls (meets P strings a (recursion_from_All (λ (e : Event). P e.kind) sent h))

-- The event came by a call with its place. The events of the calls before it are among those before the event.
pub record CameBy (calls before : List Event) (e : Event) : Type 0 where
  pub front : List Event
  pub kind : EventKind
  pub back : List Event
  pub parts : calls ≡ front ++ call e.line kind ∷ back
  pub earlier : State
  pub earlier_events : List Event
  pub before_it : AreTaken front earlier earlier_events
  pub between : List Event
  pub within : before ≡ earlier_events ++ between
  pub later : State
  pub events : List Event
  pub with_it : AreTaken (front ++ call e.line kind ∷ []) later events
  pub rest : List Event
  pub has : events ≡ before ++ e ∷ rest

there : (P : Event → Type 0) (xs : List Event) (e : Event) (ys : List Event) → AllByRecursion P (xs ++ e ∷ ys) → P e
there P xs e ys h = (rest_all P xs (e ∷ ys) h).0

last_call : {calls sent : List Event} {s : State} (c : Event) → AreTaken calls s sent → IsGood c.kind → is_misplaced c.kind s.depth s.root ≡ false
    → (before front : List Event) (e : Event) (behind : List Event) → before ≡ sent ++ front → events_at c.line c.kind s.text ≡ front ++ e ∷ behind
    → CameBy (calls ++ c ∷ []) before e
last_call {calls} {sent} {s} c a good placed before front e behind p q =
    let place : e.line ≡ c.line = there (λ (e : Event). e.line ≡ c.line) front e behind
    (subst (AllByRecursion (λ (e : Event). e.line ≡ c.line)) q (have_place c.line c.kind s.text)) in
    let same : ◌≡◌ {A = Event} c (call e.line c.kind) = ap (λ (n : ℕ). call n c.kind) (sym place) in record {
      front = calls;
      kind = c.kind;
      back = [];
      parts = ap (λ (d : Event). calls ++ d ∷ []) same;
      earlier = s;
      earlier_events = sent;
      before_it = a;
      between = front;
      within = p;
      later = after c.kind s;
      events = sent ++ events_at c.line c.kind s.text;
      with_it = one_more c a good placed (ap (λ (d : Event). calls ++ d ∷ []) (sym same)) refl refl;
      rest = behind;
      has = ap (λ (l : List Event). sent ++ l) q ∙ sym (append_assoc sent front (e ∷ behind)) ∙ ap (λ (l : List Event). l ++ e ∷ behind) (sym p);
    }

earlier_call : {calls before : List Event} {e : Event} (c : Event) → CameBy calls before e → CameBy (calls ++ c ∷ []) before e
earlier_call {calls} {before} {e} c w = record {
  front = w.front;
  kind = w.kind;
  back = w.back ++ c ∷ [];
  parts = ap (λ (l : List Event). l ++ c ∷ []) w.parts ∙ append_assoc w.front (call e.line w.kind ∷ w.back) (c ∷ []);
  earlier = w.earlier;
  earlier_events = w.earlier_events;
  before_it = w.before_it;
  between = w.between;
  within = w.within;
  later = w.later;
  events = w.events;
  with_it = w.with_it;
  rest = w.rest;
  has = w.has;
}

one_call : {calls sent : List Event} {s : State} (c : Event) → AreTaken calls s sent → IsGood c.kind → is_misplaced c.kind s.depth s.root ≡ false
    → (before : List Event) (e : Event) (behind : List Event) → ((rest : List Event) → sent ≡ before ++ e ∷ rest → CameBy calls before e)
    → Side sent (events_at c.line c.kind s.text) before e behind → CameBy (calls ++ c ∷ []) before e
one_call c a good placed before e behind came (in_first rest q) = earlier_call c (came rest q)
one_call c a good placed before e behind came (in_second front q r) = last_call c a good placed before front e behind q r

-- each event came by a call
pub came_by : {calls sent : List Event} {s : State} → AreTaken calls s sent → (before : List Event) (e : Event) (behind : List Event)
    → sent ≡ before ++ e ∷ behind → CameBy calls before e
came_by none_taken [] e behind p = absurd (cc)
came_by none_taken (b ∷ before) e behind p = absurd (cc)
came_by (one_more {calls} {all} {sent} {out} {s} {t} c a good placed parts state outs) before e behind p =
    subst (λ (l : List Event). CameBy l before e) (sym parts)
    (one_call c a good placed before e behind (λ rest q. came_by a before e rest q)
    (side sent (events_at c.line c.kind s.text) before e behind (sym outs ∙ p)))
