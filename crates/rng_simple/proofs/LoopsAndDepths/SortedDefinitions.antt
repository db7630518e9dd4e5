-- Finitely many definitions that are closed under mentions split into an order and a stuck rest. So S16 is broken as
-- soon as one definition that is met leads to itself, however it was found.
use Rattle.std.proofs.Common.{zero, suc, ◌≡◌, ◌⊎◌, inl, inr, refl, ap, sym, subst, ℕ, ◌+◌, ◌≤◌, List, [], ◌∷◌, ◌++◌, length, Some, Contains, length-append}
use Rattle.std.proofs.Common.{arith}
use Rattle.std.proofs.lemmas.List.Elements.{Contains-append_left, Contains-append_right, Contains-append_cases, Contains-push}
use Rattle.rng_model.proofs.Members.{not_in_none, one_only}
use Rattle.rng_model.specs.simple.Tree.{Tree, not_allowed, empty, text, leaf, attribute, list, data_of, data_except, value, mixed, optional, zero_or_more}
use Rattle.rng_model.specs.simple.Tree.{one_or_more, joined, Trees, no_trees, tree_and}
use Rattle.rng_model.specs.schema.Patterns.{Place, Point}
use Rattle.rng_model.specs.schema.Schema.{Schema, Definition, body}
use Rattle.rng_model.specs.simple.Leaves.{LeafIn, LeafAmong}
use Rattle.rng_model.specs.simple.Leaves as at
use Rattle.rng_model.specs.schema.Unfolding.{Aim, to_element, to_definition, to_nothing, aim}
use Rattle.rng_model.specs.schema.SchemaClauses.{BreaksExpansion}
use Rattle.rng_simple.specs.plain.Met.{Met, IsSettled, IsOrder, none_yet, and_then, Leads}
use Rattle.rng_model.proofs.Unfolding.{MentionsSome, none_of_stuck}
use Rattle.rng_model.proofs.Options.{one_value}
use Rattle.rng_simple.proofs.LoopsAndDepths.OrderAndRest.{IsSplit}
use Rattle.rng_simple.proofs.LoopsAndDepths.PatternPoints.{mapped, bound, only_leaf}
use Rattle.rng_simple.proofs.LoopsAndDepths.LoopsOrOrder.{Covers, order_trees, breaks, leading_is_stuck}

-- either all leaves have one property, or one leaf has the other
module _ {L : Type 0} (P : L → Type 0) (Q : Type 0) where
  mutual
    pub leaves_or : (a : Tree L) → ((l : L) → LeafIn l a → P l ⊎ Q) → ((l : L) → LeafIn l a → P l) ⊎ Q
    leaves_or not_allowed f = inl (λ l i. elim i [ ])
    leaves_or empty f = inl (λ l i. elim i [ ])
    leaves_or text f = inl (λ l i. elim i [ ])
    leaves_or (leaf m) f = mapped (λ p. only_leaf P p) (f m at.here)
    leaves_or (attribute c a) f = mapped (λ p l i. elim i [ at.of_attribute j ↦ p l j ]) (leaves_or a (λ l i. f l (at.of_attribute i)))
    leaves_or (list a) f = mapped (λ p l i. elim i [ at.of_list j ↦ p l j ]) (leaves_or a (λ l i. f l (at.of_list i)))
    leaves_or (data_of d) f = inl (λ l i. elim i [ ])
    leaves_or (data_except d a) f = mapped (λ p l i. elim i [ at.of_except j ↦ p l j ]) (leaves_or a (λ l i. f l (at.of_except i)))
    leaves_or (value d v) f = inl (λ l i. elim i [ ])
    leaves_or (mixed a) f = mapped (λ p l i. elim i [ at.of_mixed j ↦ p l j ]) (leaves_or a (λ l i. f l (at.of_mixed i)))
    leaves_or (optional a) f = mapped (λ p l i. elim i [ at.of_optional j ↦ p l j ]) (leaves_or a (λ l i. f l (at.of_optional i)))
    leaves_or (zero_or_more a) f = mapped (λ p l i. elim i [ at.of_zero_or_more j ↦ p l j ]) (leaves_or a (λ l i. f l (at.of_zero_or_more i)))
    leaves_or (one_or_more a) f = mapped (λ p l i. elim i [ at.of_one_or_more j ↦ p l j ]) (leaves_or a (λ l i. f l (at.of_one_or_more i)))
    leaves_or (joined k a b ts) f =
        bound (λ p. bound (λ q. mapped (λ r l i. elim i [ at.of_first j ↦ p l j | at.of_second j ↦ q l j | at.of_others j ↦ r l j ])
        (among_or ts (λ l i. f l (at.of_others i))))
        (leaves_or b (λ l i. f l (at.of_second i)))) (leaves_or a (λ l i. f l (at.of_first i)))

    among_or : (ts : Trees L) → ((l : L) → LeafAmong l ts → P l ⊎ Q) → ((l : L) → LeafAmong l ts → P l) ⊎ Q
    among_or no_trees f = inl (λ l i. elim i [ ])
    among_or (tree_and a ts) f =
        bound (λ p. mapped (λ r l i. elim i [ at.in_this j ↦ p l j | at.in_later j ↦ r l j ]) (among_or ts (λ l i. f l (at.in_later i))))
        (leaves_or a (λ l i. f l (at.in_this i)))

-- a list split at one of its members
pub record Taken {A : Type 0} (xs : List A) (P : A → Type 0) : Type 0 where
  pub front : List A
  pub taken : A
  pub back : List A
  pub parts : xs ≡ front ++ taken ∷ back
  pub holds : P taken

module _ {A : Type 0} where
  taken_later : {P : A → Type 0} (x : A) (xs : List A) → Taken xs P → Taken (x ∷ xs) P
  taken_later x xs t = record { front = x ∷ t.front; taken = t.taken; back = t.back; parts = ap (λ ys. x ∷ ys) t.parts; holds = t.holds }

  -- some member has one property, or all have the other
  take_or : (P Q : A → Type 0) (xs : List A) → ((x : A) → Contains xs x → P x ⊎ Q x) → Taken xs P ⊎ ((x : A) → Contains xs x → Q x)
  take_or P Q [] f = inr (λ x c. absurd (not_in_none c))
  take_or P Q (x ∷ xs) f = elim (f x (0, omega arith, refl)) [
    | inl p ↦ inl (record { front = []; taken = x; back = xs; parts = refl; holds = p })
    | inr q ↦ elim (take_or P Q xs (λ y c. f y (Contains-append_right (x ∷ []) xs y c))) [
      | inl t ↦ inl (taken_later x xs t)
      | inr r ↦ inr (λ y c. elim (Contains-append_cases (x ∷ []) xs y c) [ inl h ↦ subst Q (one_only x y h) q | inr h ↦ r y h ])
    ]
  ]

  -- what is left
  pub left_or_taken : (front back : List A) (x y : A) → Contains (front ++ x ∷ back) y → Contains (front ++ back) y ⊎ (x ≡ y)
  left_or_taken front back x y c = elim (Contains-append_cases front (x ∷ back) y c) [
    | inl h ↦ inl (Contains-append_left front back y h)
    | inr h ↦ elim (Contains-append_cases (x ∷ []) back y h) [
      | inl i ↦ inr (one_only x y i)
      | inr i ↦ inl (Contains-append_right front back y i)
    ]
  ]

module _ (s : Schema) (ds : List Definition) (has_body : (d : Definition) → Contains ds d → (a : Tree Point) × (body s d ≡ Some a))
    (closed : (d : Definition) (a : Tree Point) (l : Point) → Contains ds d → body s d ≡ Some a → LeafIn l a
    → IsSettled (Contains ds) (aim s d.place l)) where
  -- in order so far, or still to do
  pub record Sorted (done todo : List Definition) : Type 0 where
    pub order : IsOrder s done
    pub all : (d : Definition) → Contains ds d → Contains done d ⊎ Contains todo d
    pub known : (d : Definition) → Contains todo d → Contains ds d

  abbrev pub IsReady : List Definition → Definition → Type 0
  IsReady done d = (a : Tree Point) × (body s d ≡ Some a) × ((l : Point) → LeafIn l a → IsSettled (Contains done) (aim s d.place l))

  abbrev pub IsHeld : List Definition → Definition → Type 0
  IsHeld todo d = (a : Tree Point) → body s d ≡ Some a → MentionsSome s (Contains todo) d.place a

  point_or : (done todo : List Definition) → Sorted done todo → (x : Place) (a : Tree Point) (l : Point) → LeafIn l a → (w : Aim) → aim s x l ≡ w
      → IsSettled (Contains ds) w → IsSettled (Contains done) w ⊎ MentionsSome s (Contains todo) x a
  point_or done todo o x a l i (to_element m) e k = inl tt
  point_or done todo o x a l i (to_definition d) e k = elim (o.all d k) [
    | inl c ↦ inl c
    | inr c ↦ inr (record { point = l; definition = d; there = i; aimed = e; holds = c })
  ]
  point_or done todo o x a l i to_nothing e k = absurd k

  ready_or : (done todo : List Definition) → Sorted done todo → (d : Definition) → Contains todo d → IsReady done d ⊎ IsHeld todo d
  ready_or done todo o d c =
      let b = has_body d (o.known d c) in
      elim (leaves_or (λ l. IsSettled (Contains done) (aim s d.place l)) (MentionsSome s (Contains todo) d.place b.0) b.0
      (λ l i. point_or done todo o d.place b.0 l i (aim s d.place l) refl (closed d b.0 l (o.known d c) b.1 i))) [
        | inl p ↦ inl (b.0, b.1, p)
        | inr m ↦ inr (λ a e. subst (MentionsSome s (Contains todo) d.place) (one_value b.1 e) m)
      ]

  -- one more in order
  one_more : (done todo : List Definition) → Sorted done todo → (t : Taken todo (IsReady done)) → Sorted (done ++ t.taken ∷ []) (t.front ++ t.back)
  one_more done todo o t = record {
    order = and_then t.taken o.order t.holds.1 t.holds.2 refl;
    all = λ d c. elim (o.all d c) [
      | inl h ↦ inl (Contains-append_left done (t.taken ∷ []) d h)
      | inr h ↦ elim (left_or_taken t.front t.back t.taken d (subst (λ xs. Contains xs d) t.parts h)) [
        | inl i ↦ inr i
        | inr e ↦ inl (subst (Contains (done ++ t.taken ∷ [])) e (Contains-push done t.taken))
      ]
    ];
    known = λ d c. o.known d (subst (λ xs. Contains xs d) (sym t.parts) (elim (Contains-append_cases t.front t.back d c) [
      | inl h ↦ Contains-append_left t.front (t.taken ∷ t.back) d h
      | inr h ↦ Contains-append_right t.front (t.taken ∷ t.back) d (Contains-append_right (t.taken ∷ []) t.back d h)
    ]));
  }

  pub record Ended : Type 0 where
    pub done : List Definition
    pub todo : List Definition
    pub sorted : Sorted done todo
    pub stuck : (d : Definition) → Contains todo d → IsHeld todo d

  fewer : (front back : List Definition) (x : Definition) (n : ℕ) → length (front ++ x ∷ back) ≤ n + 1 → length (front ++ back) ≤ n
  fewer front back x n h = omega (arith, length-append front (x ∷ back), length-append front back, length-append (x ∷ []) back)

  ended : (n : ℕ) (done todo : List Definition) → length todo ≤ n → Sorted done todo → Ended
  ended zero done todo h o = record { done = done; todo = todo; sorted = o; stuck = λ d c. absurd (let k = c.1 in omega arith) }
  ended (suc n) done todo h o = elim (take_or (IsReady done) (IsHeld todo) todo (ready_or done todo o)) [
    | inl t ↦ ended n (done ++ t.taken ∷ []) (t.front ++ t.back) (fewer t.front t.back t.taken n (omega (arith, h, ap length t.parts)))
        (one_more done todo o t)
    | inr q ↦ record { done = done; todo = todo; sorted = o; stuck = q }
  ]

  pub whole : Ended
  whole = ended (length ds) [] ds (omega arith) (record { order = none_yet; all = λ d c. inr c; known = λ d c. c })

  wider : (w : Aim) → IsSettled (Contains ds) w → IsSettled (λ d. Contains whole.done d ⊎ Contains whole.todo d) w
  wider (to_element m) k = tt
  wider (to_definition d) k = whole.sorted.all d k
  wider to_nothing k = absurd k

  -- an order, and a rest that is stuck
  pub split : Covers s (Contains ds) → IsSplit s whole.done (Contains whole.todo)
  split all = record { order = whole.sorted.order; stuck = whole.stuck; all = λ w m. wider w (all w m) }

  -- S16 is broken if a definition is met that leads to itself
  pub loop_breaks : Covers s (Contains ds) → (c : Definition) → Met s (to_definition c) → Leads s c c → BreaksExpansion s
  loop_breaks all c m loop = elim (whole.sorted.all c (all (to_definition c) m)) [
    | inl h ↦ let t = order_trees s whole.sorted.order c h in absurd (none_of_stuck s (λ d. Leads s d c) (leading_is_stuck s c loop) c loop t.0 t.1)
    | inr h ↦ breaks s (Contains whole.todo) (split all) c m h
  ]
