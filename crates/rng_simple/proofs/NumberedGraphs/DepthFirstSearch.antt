-- The steps of a depth-first search.
use Rattle.std.proofs.Common.{◌≡◌, ◌⊎◌, inl, inr, refl, ap, sym, ◌∙◌, subst, ℕ, zero, suc, ◌+◌, ◌-◌, ◌<◌, ◌≤◌, List, [], ◌∷◌, ◌++◌, length, map, set}
use Rattle.std.proofs.Common.{slice_get, get_or, slice_index_or, Some, Contains, length-append, arith}
use Rattle.std.proofs.lemmas.Bool.{cases_lt, cases_eq}
use Rattle.std.proofs.lemmas.List.{get_or_append_left, get_or-append_right, get_or-set_same, get_or-set_other, length-set, length-map}
use Rattle.std.proofs.lemmas.List.{get_or-map}
use Rattle.std.proofs.lemmas.List.Elements.{All-nil, All-push, Contains-append_left, Contains-push}
use Rattle.std.proofs.lemmas.Option.{slice_get_within, slice_get-get_or, get_or_from_slice_get}
use Rattle.rng_model.proofs.Places.{before_or_at_end, at_place_of_end, in_front}
use Rattle.rng_simple.specs.declared.graph.order.Mark.{Mark}
use Rattle.rng_simple.specs.declared.graph.order.Mark.TheVariants as mark
use Rattle.rng_simple.specs.declared.graph.order.Task.{Task}
use Rattle.rng_simple.specs.declared.graph.order.Task.TheVariants as task
use Rattle.rng_simple.specs.plain.Graph.{no_numbers, and_number, LeadsBy, by_one, by_more}
use Rattle.rng_simple.specs.plain.Search.{Lists, AreMentionsBelow, number_of, IsDue, IsSearch, IsStart, weight}
use Rattle.rng_model.proofs.Options.{one_value}

then_one : {A : Type 0} (M : A → A → Type 0) {x y : A} (z : A) → LeadsBy M x y → M y z → LeadsBy M x z
then_one M z (by_one m) n = by_more m (by_one n)
then_one M z (by_more m w) n = by_more m (then_one M z w n)

-- after a write
set_at_place : {A : Type 0} (xs : List A) (j : ℕ) (x y : A) (i : ℕ) → slice_get (set xs j x) i ≡ Some y
    → ((i ≡ j) × (y ≡ x)) ⊎ ((i ≡ j → ⊥) × (slice_get xs i ≡ Some y))
set_at_place xs j x y i e =
    let inside : i < length xs = omega (arith, slice_get_within (set xs j x) i y e, length-set xs j x) in
    elim (cases_eq i j) [
      | inl q ↦ inl (
        q,
        sym (get_or_from_slice_get (set xs j x) i y y e) ∙ ap (λ k. get_or (set xs j x) k y) q
            ∙ get_or-set_same xs j x y (subst (λ k. k < length xs) q inside),
      )
      | inr n ↦ inr (n, slice_get-get_or xs i y inside ∙ ap Some (sym (get_or-set_other xs j i x y n) ∙ get_or_from_slice_get (set xs j x) i y y e))
    ]

-- ---- the tasks after a step

-- without the last task, whose number is j
due_less : (rest : List Task) (t : Task) (from i : ℕ) → IsDue (rest ++ t ∷ []) from i → IsDue rest from i ⊎ (number_of t ≡ i)
due_less rest t from i d = elim (before_or_at_end rest t d.task d.place d.there) [
  | inl h ↦ inl (record { place = d.place; task = d.task; after = d.after; there = h; is = d.is })
  | inr h ↦ inr (ap number_of (sym h.1) ∙ d.is)
]

due_more : (rest more : List Task) (from i : ℕ) → IsDue rest from i → IsDue (rest ++ more) from i
due_more rest more from i d = record { place = d.place; task = d.task; after = d.after; there = in_front rest more d.place d.task d.there; is = d.is }

module _ (all : List (List ℕ)) (marks : List Mark) (rest : List Task) (order : List ℕ) where
  -- ---- entering a number that is done: nothing changes

  pub enter_done : (j : ℕ) → IsSearch all marks (rest ++ task.Enter j ∷ []) order → slice_get marks j ≡ Some mark.Done → IsSearch all marks rest order
  enter_done j s e =
      let here = s.done j e in
      let gone : (from i : ℕ) → Contains order i ⊎ IsDue (rest ++ task.Enter j ∷ []) from i → Contains order i ⊎ IsDue rest from i =
      λ from i o. elim o [
        | inl c ↦ inl c
        | inr d ↦ elim (due_less rest (task.Enter j) from i d) [ inl f ↦ inr f | inr q ↦ inl (subst (Contains order) q here) ]
      ] in record {
        long = s.long;
        in_order = s.in_order;
        ordered_below = s.ordered_below;
        tasks_below = λ p t f. s.tasks_below p t (in_front rest (task.Enter j ∷ []) p t f);
        done = s.done;
        opened =
            λ i f. let o = s.opened i f in elim (before_or_at_end rest (task.Enter j) (task.Leave i) o.0 o.1) [ inl h ↦ (o.0, h) | inr h ↦ absurd (let z = h.1 in cc) ];
        every = λ i h. gone 0 i (s.every i h);
        before = λ p k i f m. gone (p + 1) i (s.before p k i (in_front rest (task.Enter j ∷ []) p (task.Leave k) f) m);
        leads = λ p q k t h f g. s.leads p q k t h (in_front rest (task.Enter j ∷ []) p (task.Leave k) f) (in_front rest (task.Enter j ∷ []) q t g);
      }

  -- ---- entering a number that is open: a loop

  pub enter_open : (j : ℕ) → IsSearch all marks (rest ++ task.Enter j ∷ []) order → slice_get marks j ≡ Some mark.Open → LeadsBy (Lists all) j j
  enter_open j s e =
      let o = s.opened j e in
      elim (before_or_at_end rest (task.Enter j) (task.Leave j) o.0 o.1) [
        | inl h ↦ s.leads o.0 (length rest) j (task.Enter j) (slice_get_within rest o.0 (task.Leave j) h) o.1 (at_place_of_end rest (task.Enter j) (length rest) refl)
        | inr h ↦ absurd (let z = h.1 in cc)
      ]

  -- ---- leaving a number: it is appended to the order

  pub leave : (j : ℕ) → IsSearch all marks (rest ++ task.Leave j ∷ []) order → IsSearch all (set marks j mark.Done) rest (order ++ j ∷ [])
  leave j s =
      let gone : (from i : ℕ) → Contains order i ⊎ IsDue (rest ++ task.Leave j ∷ []) from i → Contains (order ++ j ∷ []) i ⊎ IsDue rest from i =
      λ from i o. elim o [
        | inl c ↦ inl (Contains-append_left order (j ∷ []) i c)
        | inr d ↦ elim (due_less rest (task.Leave j) from i d) [ inl f ↦ inr f | inr q ↦ inl (subst (Contains (order ++ j ∷ [])) q (Contains-push order j)) ]
      ] in
      let mentioned : (i : ℕ) → Lists all j i → Contains order i =
      λ i m. elim (s.before (length rest) j i (at_place_of_end rest (task.Leave j) (length rest) refl) m) [
        | inl c ↦ c
        | inr d ↦ absurd (omega (arith, d.after, slice_get_within (rest ++ task.Leave j ∷ []) d.place d.task d.there, length-append rest (task.Leave j ∷ [])))
      ] in record {
        long = length-set marks j mark.Done ∙ s.long;
        in_order = and_number j s.in_order mentioned refl;
        ordered_below =
            All-push (λ i. i < length all) order j s.ordered_below
            (s.tasks_below (length rest) (task.Leave j) (at_place_of_end rest (task.Leave j) (length rest) refl));
        tasks_below = λ p t f. s.tasks_below p t (in_front rest (task.Leave j ∷ []) p t f);
        done = λ i f. elim (set_at_place marks j mark.Done mark.Done i f) [
          | inl h ↦ subst (Contains (order ++ j ∷ [])) (sym h.0) (Contains-push order j)
          | inr h ↦ Contains-append_left order (j ∷ []) i (s.done i h.1)
        ];
        opened = λ i f. elim (set_at_place marks j mark.Done mark.Open i f) [
          | inl h ↦ absurd (let z = h.1 in cc)
          | inr h ↦
              let o = s.opened i h.1 in
              elim (before_or_at_end rest (task.Leave j) (task.Leave i) o.0 o.1) [
                | inl k ↦ (o.0, k)
                | inr k ↦ absurd (h.0 (ap number_of k.1))
              ]
        ];
        every = λ i h. gone 0 i (s.every i h);
        before = λ p k i f m. gone (p + 1) i (s.before p k i (in_front rest (task.Leave j ∷ []) p (task.Leave k) f) m);
        leads = λ p q k t h f g. s.leads p q k t h (in_front rest (task.Leave j ∷ []) p (task.Leave k) f) (in_front rest (task.Leave j ∷ []) q t g);
      }

-- ---- entering a new number: its task to leave comes after everything that it mentions

in_either : {A : Type 0} (xs ys : List A) (z : A) (i : ℕ) → slice_get (xs ++ ys) i ≡ Some z
    → (slice_get xs i ≡ Some z) ⊎ ((length xs ≤ i) × (slice_get ys (i - length xs) ≡ Some z))
in_either xs ys z i e = elim (cases_lt i (length xs)) [
  | inl h ↦ inl (slice_get-get_or xs i z h ∙ ap Some (sym (get_or_append_left xs ys z i h) ∙ get_or_from_slice_get (xs ++ ys) i z z e))
  | inr h ↦ inr (
    h,
    slice_get-get_or ys (i - length xs) z (omega (arith, slice_get_within (xs ++ ys) i z e, length-append xs ys))
        ∙ ap Some (sym (get_or-append_right xs ys (length xs) i z refl h) ∙ get_or_from_slice_get (xs ++ ys) i z z e),
  )
]

behind : {A : Type 0} (xs ys : List A) (z : A) (i : ℕ) → slice_get ys i ≡ Some z → slice_get (xs ++ ys) (length xs + i) ≡ Some z
behind xs ys z i e =
    let same : (length xs + i) - length xs ≡ i = omega arith in
    slice_get-get_or (xs ++ ys) (length xs + i) z (omega (arith, length-append xs ys, slice_get_within ys i z e))
    ∙ ap Some (get_or-append_right xs ys (length xs) (length xs + i) z refl (omega arith) ∙ ap (λ k. get_or ys k z) same ∙ get_or_from_slice_get ys i z z e)

entered_before : (xs : List ℕ) (t : Task) (i : ℕ) → slice_get (map task.Enter xs) i ≡ Some t → (k : ℕ) × (slice_get xs i ≡ Some k) × (t ≡ task.Enter k)
entered_before xs t i e =
    let inside : i < length xs = omega (arith, slice_get_within (map task.Enter xs) i t e, length-map xs task.Enter) in
    (get_or xs i 0, slice_get-get_or xs i 0 inside, sym (get_or_from_slice_get (map task.Enter xs) i t t e) ∙ get_or-map task.Enter xs i 0 t inside)

entered_at : (xs : List ℕ) (k i : ℕ) → slice_get xs i ≡ Some k → slice_get (map task.Enter xs) i ≡ Some (task.Enter k)
entered_at xs k i e =
    let inside = slice_get_within xs i k e in
    slice_get-get_or (map task.Enter xs) i (task.Enter k) (omega (arith, length-map xs task.Enter))
    ∙ ap Some (get_or-map task.Enter xs i k (task.Enter k) inside ∙ ap task.Enter (get_or_from_slice_get xs i k k e))

enter_is_no_leave : {j k : ℕ} → task.Enter j ≡ task.Leave k → ⊥
enter_is_no_leave e = cc

open_is_not_done : mark.Done ≡ mark.Open → ⊥
open_is_not_done e = cc

module _ (all : List (List ℕ)) (marks : List Mark) (rest : List Task) (order : List ℕ) (j : ℕ) (s : IsSearch all marks (rest ++ task.Enter j ∷ []) order)
    (new : slice_get marks j ≡ Some mark.New) (below : AreMentionsBelow all) where
  abbrev mentions : List ℕ
  mentions = slice_index_or all j []

  abbrev tasks : List Task
  tasks = (rest ++ task.Leave j ∷ []) ++ map task.Enter mentions

  data Stands (p : ℕ) (t : Task) : Type 0 where
    in_rest : slice_get rest p ≡ Some t → Stands p t
    is_left : p ≡ length rest → t ≡ task.Leave j → Stands p t
    is_more : (i : ℕ) → t ≡ task.Enter i → Contains mentions i → length rest < p → Stands p t

  stands : (p : ℕ) (t : Task) → slice_get tasks p ≡ Some t → Stands p t
  stands p t e = elim (in_either (rest ++ task.Leave j ∷ []) (map task.Enter mentions) t p e) [
    | inl h ↦ elim (before_or_at_end rest (task.Leave j) t p h) [ inl k ↦ in_rest k | inr k ↦ is_left k.0 k.1 ]
    | inr h ↦
        let k = p - length (rest ++ task.Leave j ∷ []) in
        let i = entered_before mentions t k h.1 in
        is_more i.0 i.2 (k, slice_get_within mentions k i.0 i.1, get_or_from_slice_get mentions k i.0 i.0 i.1)
        (omega (arith, h.0, length-append rest (task.Leave j ∷ [])))
  ]

  kept : (p : ℕ) (t : Task) → slice_get rest p ≡ Some t → slice_get tasks p ≡ Some t
  kept p t e = in_front (rest ++ task.Leave j ∷ []) (map task.Enter mentions) p t (in_front rest (task.Leave j ∷ []) p t e)

  left : slice_get tasks (length rest) ≡ Some (task.Leave j)
  left = in_front (rest ++ task.Leave j ∷ []) (map task.Enter mentions) (length rest) (task.Leave j) (at_place_of_end rest (task.Leave j) (length rest) refl)

  was : slice_get (rest ++ task.Enter j ∷ []) (length rest) ≡ Some (task.Enter j)
  was = at_place_of_end rest (task.Enter j) (length rest) refl

  before_it : (p : ℕ) (t : Task) → slice_get rest p ≡ Some t → slice_get (rest ++ task.Enter j ∷ []) p ≡ Some t
  before_it p t e = in_front rest (task.Enter j ∷ []) p t e

  -- what had a task still has one
  still_due : (from i : ℕ) → from ≤ length rest → Contains order i ⊎ IsDue (rest ++ task.Enter j ∷ []) from i → Contains order i ⊎ IsDue tasks from i
  still_due from i h o = elim o [
    | inl c ↦ inl c
    | inr d ↦ elim (due_less rest (task.Enter j) from i d) [
      | inl f ↦ inr (record { place = f.place; task = f.task; after = f.after; there = kept f.place f.task f.there; is = f.is })
      | inr q ↦ inr (record { place = length rest; task = task.Leave j; after = h; there = left; is = q })
    ]
  ]

  -- what it mentions has a task
  mentioned_due : (i : ℕ) → Lists all j i → IsDue tasks (length rest + 1) i
  mentioned_due i m =
      let e : slice_get mentions m.0 ≡ Some i = slice_get-get_or mentions m.0 i m.1 ∙ ap Some m.2 in record {
        place = length (rest ++ task.Leave j ∷ []) + m.0;
        task = task.Enter i;
        after = omega (arith, length-append rest (task.Leave j ∷ []));
        there = behind (rest ++ task.Leave j ∷ []) (map task.Enter mentions) (task.Enter i) m.0 (entered_at mentions i m.0 e);
        is = refl;
      }

  below_of : (p : ℕ) (t : Task) → Stands p t → number_of t < length all
  below_of p t (in_rest e) = s.tasks_below p t (before_it p t e)
  below_of p t (is_left e f) = subst (λ u. number_of u < length all) (sym f) (s.tasks_below (length rest) (task.Enter j) was)
  below_of p t (is_more i e c h) = subst (λ u. number_of u < length all) (sym e) (below j i c)

  before_of : (p k i : ℕ) → Stands p (task.Leave k) → Lists all k i → Contains order i ⊎ IsDue tasks (p + 1) i
  before_of p k i (in_rest e) m =
      still_due (p + 1) i (let h = slice_get_within rest p (task.Leave k) e in omega arith) (s.before p k i (before_it p (task.Leave k) e) m)
  before_of p k i (is_left e f) m =
      let same : k ≡ j = ap number_of f in
      inr (subst (λ n. IsDue tasks (n + 1) i) (sym e) (mentioned_due i (subst (λ n. Lists all n i) same m)))
  before_of p k i (is_more n e c h) m = absurd (enter_is_no_leave (sym e))

  leads_of : (p q k : ℕ) (t : Task) → p < q → Stands p (task.Leave k) → Stands q t → LeadsBy (Lists all) k (number_of t)
  leads_of p q k t h (in_rest e) (in_rest f) = s.leads p q k t h (before_it p (task.Leave k) e) (before_it q t f)
  leads_of p q k t h (in_rest e) (is_left f g) =
      subst (λ u. LeadsBy (Lists all) k (number_of u)) (sym g)
      (s.leads p (length rest) k (task.Enter j) (slice_get_within rest p (task.Leave k) e) (before_it p (task.Leave k) e) was)
  leads_of p q k t h (in_rest e) (is_more i f c l) =
      subst (λ u. LeadsBy (Lists all) k (number_of u)) (sym f)
      (then_one (Lists all) i (s.leads p (length rest) k (task.Enter j) (slice_get_within rest p (task.Leave k) e) (before_it p (task.Leave k) e) was) c)
  leads_of p q k t h (is_left e f) (in_rest g) = absurd (let l = slice_get_within rest q t g in omega arith)
  leads_of p q k t h (is_left e f) (is_left g l) = absurd (omega arith)
  leads_of p q k t h (is_left e f) (is_more i g c l) =
      let same : k ≡ j = ap number_of f in
      subst (λ u. LeadsBy (Lists all) k (number_of u)) (sym g) (subst (λ n. LeadsBy (Lists all) n i) (sym same) (by_one c))
  leads_of p q k t h (is_more i e c l) w = absurd (enter_is_no_leave (sym e))

  opened_of : (i : ℕ) → slice_get (set marks j mark.Open) i ≡ Some mark.Open → (p : ℕ) × (slice_get tasks p ≡ Some (task.Leave i))
  opened_of i f = elim (set_at_place marks j mark.Open mark.Open i f) [
    | inl h ↦ (length rest, left ∙ ap (λ n. Some (task.Leave n)) (sym h.0))
    | inr h ↦
        let o = s.opened i h.1 in
        elim (before_or_at_end rest (task.Enter j) (task.Leave i) o.0 o.1) [
          | inl k ↦ (o.0, kept o.0 (task.Leave i) k)
          | inr k ↦ absurd (enter_is_no_leave (sym k.1))
        ]
  ]

  done_of : (i : ℕ) → slice_get (set marks j mark.Open) i ≡ Some mark.Done → Contains order i
  done_of i f = elim (set_at_place marks j mark.Open mark.Done i f) [
    | inl h ↦ absurd (open_is_not_done h.1)
    | inr h ↦ s.done i h.1
  ]

  pub enter_new : IsSearch all (set marks j mark.Open) tasks order
  enter_new = record {
    long = length-set marks j mark.Open ∙ s.long;
    in_order = s.in_order;
    ordered_below = s.ordered_below;
    tasks_below = λ p t f. below_of p t (stands p t f);
    done = done_of;
    opened = opened_of;
    every = λ i h. still_due 0 i (omega arith) (s.every i h);
    before = λ p k i f m. before_of p k i (stands p (task.Leave k) f) m;
    leads = λ p q k t h f g. leads_of p q k t h (stands p (task.Leave k) f) (stands q t g);
  }

-- ---- the start and the end

pub started : (all : List (List ℕ)) (marks : List Mark) (tasks : List Task) → IsStart (length all) marks tasks → IsSearch all marks tasks []
started all marks tasks s =
    let entered : (p : ℕ) (t : Task) → slice_get tasks p ≡ Some t
    → t ≡ task.Enter p = λ p t e. one_value e (s.each p (omega (arith, slice_get_within tasks p t e, s.all_tasks))) in record {
      long = s.all_marks;
      in_order = no_numbers;
      ordered_below = All-nil (λ i. i < length all);
      tasks_below = λ p t e. subst (λ u. number_of u < length all) (sym (entered p t e)) (omega (arith, slice_get_within tasks p t e, s.all_tasks));
      done = λ j e. absurd (let z = s.new j mark.Done e in cc);
      opened = λ j e. absurd (let z = s.new j mark.Open e in cc);
      every = λ j h. inr (record { place = j; task = task.Enter j; after = omega arith; there = s.each j h; is = refl });
      before = λ p j i e m. absurd (enter_is_no_leave (sym (entered p (task.Leave j) e)));
      leads = λ p q j t h e f. absurd (enter_is_no_leave (sym (entered p (task.Leave j) e)));
    }

pub all_ordered : (all : List (List ℕ)) (marks : List Mark) (order : List ℕ) → IsSearch all marks [] order → (j : ℕ) → j < length all → Contains order j
all_ordered all marks order s j h = elim (s.every j h) [
  | inl c ↦ c
  | inr d ↦ absurd (let k = slice_get_within [] d.place d.task d.there in omega arith)
]

-- ---- the weight

pub weight_open : (marks : List Mark) (all : List (List ℕ)) (j : ℕ) → slice_get marks j ≡ Some mark.New → j < length all
    → weight (set marks j mark.Open) all + (length (slice_index_or all j []) + 2) ≡ weight marks all
weight_open [] all j e h = absurd (let k = slice_get_within [] j mark.New e in omega arith)
weight_open (m ∷ marks) [] j e h = absurd (omega arith)
weight_open (m ∷ marks) (is ∷ all) zero e h = by_mark m (one_value refl e) where
  by_mark : (m : Mark) → m ≡ mark.New → weight (mark.Open ∷ marks) (is ∷ all) + (length is + 2) ≡ weight (m ∷ marks) (is ∷ all)
  by_mark mark.New q = omega arith
  by_mark mark.Open q = absurd (let z = q in cc)
  by_mark mark.Done q = absurd (let z = q in cc)
weight_open (mark.New ∷ marks) (is ∷ all) (suc j) e h = let k = weight_open marks all j e (omega arith) in omega arith
weight_open (mark.Open ∷ marks) (is ∷ all) (suc j) e h = weight_open marks all j e (omega arith)
weight_open (mark.Done ∷ marks) (is ∷ all) (suc j) e h = weight_open marks all j e (omega arith)

pub weight_done : (marks : List Mark) (all : List (List ℕ)) (j : ℕ) → weight (set marks j mark.Done) all ≤ weight marks all
weight_done [] all j = omega arith
weight_done (m ∷ marks) [] zero = omega arith
weight_done (m ∷ marks) [] (suc j) = omega arith
weight_done (mark.New ∷ marks) (is ∷ all) zero = omega arith
weight_done (mark.Open ∷ marks) (is ∷ all) zero = omega arith
weight_done (mark.Done ∷ marks) (is ∷ all) zero = omega arith
weight_done (mark.New ∷ marks) (is ∷ all) (suc j) = let k = weight_done marks all j in omega arith
weight_done (mark.Open ∷ marks) (is ∷ all) (suc j) = weight_done marks all j
weight_done (mark.Done ∷ marks) (is ∷ all) (suc j) = weight_done marks all j
