-- A step does not change what a tree matches, however its leaves are read.
use Rattle.std.proofs.Common.{◌≡◌, refl, subst, List, ◌++◌, ℕ}
use Rattle.rng_model.specs.names.Names.{Name, NameClass}
use Rattle.rng_model.specs.simple.Tree.{Datatype, Connector, choice, group, interleave, Tree, not_allowed, empty, text, attribute, list, data_of, data_except}
use Rattle.rng_model.specs.simple.Tree.{mixed}
use Rattle.rng_model.specs.simple.Tree.{optional, zero_or_more, one_or_more, joined, Trees, no_trees, tree_and}
use Rattle.rng_model.specs.simple.Simplification.{ClassStep, RuleGroup, HasNotAllowed, Step, StepAmong, AnyStep, Steps}
use Rattle.rng_model.specs.simple.Simplification as step
use Rattle.rng_model.specs.matching.Document.{Attribute, Item, Interleaves, done, Shares, in_order, in_any_order}
use Rattle.rng_model.specs.datatypes.Texts.{Texts}
use Rattle.rng_model.specs.matching.Matching.{Leaves, Matches, MatchesOne, MatchesAll, Weakly}
use Rattle.rng_model.specs.matching.Matching as m
use Rattle.rng_model.proofs.OneSidedInterleavings.{left_alone, right_alone, left_is_all, right_is_all}
use Rattle.rng_simple.proofs.Matching.ThreeParts.{to_left, to_right, shares_left, shares_right, nothing_right, nothing_left, with_nothing, after_nothing, not_by_choice}

module _ {X L : Type 0} (leaves : Leaves X L) (In : NameClass → Name → Type 0) (texts : Texts) where
  abbrev M : X → Tree L → List Attribute → List Item → Type 0
  M = Matches leaves In texts

  -- b matches everything that a matches
  abbrev Under : X → Tree L → Tree L → Type 0
  Under x a b = (xs : List Attribute) (ns : List Item) → M x a xs ns → M x b xs ns

  -- two members
  pair : {x : X} {k : Connector} {a b : Tree L} {xs ys zs : List Attribute} {ms ns os : List Item} → M x a xs ms → M x b ys ns → Interleaves xs ys zs
      → Shares k ms ns os → M x (joined k a b no_trees) zs os
  pair {k = k} {ys = ys} {ns = ns} d e i h = m.all d (m.and e m.none (left_alone ys) (with_nothing k (not_by_choice h) ns)) i h

  record Pair (x : X) (k : Connector) (a b : Tree L) (zs : List Attribute) (os : List Item) : Type 0 where
    pub xs : List Attribute
    pub ys : List Attribute
    pub ms : List Item
    pub ns : List Item
    pub one : M x a xs ms
    pub other : M x b ys ns
    pub attributes : Interleaves xs ys zs
    pub items : Shares k ms ns os

  unpair : {x : X} {k : Connector} {a b : Tree L} {zs : List Attribute} {os : List Item} → (k ≡ choice → ⊥) → M x (joined k a b no_trees) zs os
      → Pair x k a b zs os
  unpair n (m.first d) = absurd (n refl)
  unpair n (m.second d) = absurd (n refl)
  unpair n (m.another d) = absurd (n refl)
  unpair {x} {k} {a} {b} n (m.all {xs = xs} {ms = ms} d (m.and {xs = ys} {ms = ns} e m.none j g) i h) =
      let p = left_is_all j in let q = nothing_right g in
      record { xs = xs; ys = ys; ms = ms; ns = ns; one = d; other = e; attributes = rw p i; items = rw q h }

  moved : {x : X} {a : Tree L} {xs ys : List Attribute} {ns os : List Item} → xs ≡ ys → ns ≡ os → M x a xs ns → M x a ys os
  moved {x} {a} {xs} {ys} {ns} {os} e f d = subst (λ ys. M x a ys os) e (subst (λ os. M x a xs os) f d)

  -- inside a tree
  pub weakly : {x : X} {a b : Tree L} → Under x a b → {xs : List Attribute} {ns : List Item} → Weakly leaves In texts x a xs ns
      → Weakly leaves In texts x b xs ns
  weakly f (m.as_is d) = m.as_is (f _ _ d)
  weakly f (m.blank_text d h) = m.blank_text (f _ _ d) h
  weakly f (m.nothing_there d) = m.nothing_there (f _ _ d)

  in_attribute : {x : X} {c d : NameClass} {a b : Tree L} → ((q : Name) → In c q → In d q) → Under x a b → Under x (attribute c a) (attribute d b)
  in_attribute g f _ _ (m.attribute_is i w) = m.attribute_is (g _ i) (weakly f w)

  in_list : {x : X} {a b : Tree L} → Under x a b → Under x (list a) (list b)
  in_list f _ _ (m.list_is h d) = m.list_is h (f _ _ d)

  in_except : {x : X} {d : Datatype} {a b : Tree L} → ((w : List ℕ) → leaves.Excepts x b w → leaves.Excepts x a w) → Under x (data_except d a) (data_except d b)
  in_except f _ _ (m.data_but h n) = m.data_but h (λ z. n (f _ z))

  no_list : {x : X} → Under x (list not_allowed) not_allowed
  no_list _ _ (m.list_is h d) = elim d [ ]

  no_except : {x : X} {d : Datatype} → Under x (data_except d not_allowed) (data_of d)
  no_except _ _ (m.data_but h n) = m.data_is h

  back_except : {x : X} {d : Datatype} → ((w : List ℕ) → leaves.Excepts x not_allowed w → ⊥) → Under x (data_of d) (data_except d not_allowed)
  back_except f _ _ (m.data_is h) = m.data_but h (f _)

  in_mixed : {x : X} {a b : Tree L} → Under x a b → Under x (mixed a) (mixed b)
  in_mixed f _ _ (m.mixed_with d h i) = m.mixed_with (f _ _ d) h i

  in_optional : {x : X} {a b : Tree L} → Under x a b → Under x (optional a) (optional b)
  in_optional f _ _ m.absent = m.absent
  in_optional f _ _ (m.present d) = m.present (f _ _ d)

  in_one_or_more : {x : X} {a b : Tree L} → Under x a b → Under x (one_or_more a) (one_or_more b)
  in_one_or_more f _ _ (m.once d) = m.once (f _ _ d)
  in_one_or_more f _ _ (m.more d e n i h) = m.more (f _ _ d) (in_one_or_more f _ _ e) n i h

  in_zero_or_more : {x : X} {a b : Tree L} → Under x a b → Under x (zero_or_more a) (zero_or_more b)
  in_zero_or_more f _ _ m.no_times = m.no_times
  in_zero_or_more f _ _ (m.some_times d) = m.some_times (in_one_or_more f _ _ d)

  in_first : {x : X} {k : Connector} {a b c : Tree L} {ts : Trees L} → Under x a b → Under x (joined k a c ts) (joined k b c ts)
  in_first f _ _ (m.first d) = m.first (f _ _ d)
  in_first f _ _ (m.second d) = m.second d
  in_first f _ _ (m.another d) = m.another d
  in_first f _ _ (m.all d e i h) = m.all (f _ _ d) e i h

  in_second : {x : X} {k : Connector} {a b c : Tree L} {ts : Trees L} → Under x a b → Under x (joined k c a ts) (joined k c b ts)
  in_second f _ _ (m.first d) = m.first d
  in_second f _ _ (m.second d) = m.second (f _ _ d)
  in_second f _ _ (m.another d) = m.another d
  in_second f _ _ (m.all d (m.and e es j g) i h) = m.all d (m.and (f _ _ e) es j g) i h

  abbrev OneUnder : X → Trees L → Trees L → Type 0
  OneUnder x ts us = (xs : List Attribute) (ns : List Item) → MatchesOne leaves In texts x ts xs ns → MatchesOne leaves In texts x us xs ns

  abbrev AllUnder : X → Trees L → Trees L → Type 0
  AllUnder x ts us = (k : Connector) (xs : List Attribute) (ns : List Item) → MatchesAll leaves In texts x k ts xs ns → MatchesAll leaves In texts x k us xs ns

  in_others : {x : X} {k : Connector} {a b : Tree L} (ts us : Trees L) → OneUnder x ts us → AllUnder x ts us → Under x (joined k a b ts) (joined k a b us)
  in_others ts us f g _ _ (m.first d) = m.first d
  in_others ts us f g _ _ (m.second d) = m.second d
  in_others ts us f g _ _ (m.another d) = m.another (f _ _ d)
  in_others ts us f g _ _ (m.all d (m.and e es j p) i h) = m.all d (m.and e (g _ _ _ es) j p) i h

  -- each rule
  nest_in : {x : X} {k : Connector} {a b c : Tree L} {cs : Trees L} → Under x (joined k a b (tree_and c cs)) (joined k (joined k a b no_trees) c cs)
  nest_in _ _ (m.first d) = m.first (m.first d)
  nest_in _ _ (m.second d) = m.first (m.second d)
  nest_in _ _ (m.another (m.this d)) = m.second d
  nest_in _ _ (m.another (m.later d)) = m.another d
  nest_in _ _ (m.all d (m.and e es j p) i h) =
      let r = to_left i j in let s = shares_left h p in m.all (pair d e r.inner s.inner) es r.outer s.outer

  nest_out : {x : X} {k : Connector} {a b c : Tree L} {cs : Trees L} → Under x (joined k (joined k a b no_trees) c cs) (joined k a b (tree_and c cs))
  nest_out _ _ (m.first (m.first d)) = m.first d
  nest_out _ _ (m.first (m.second d)) = m.second d
  nest_out _ _ (m.first (m.another d)) = elim d [ ]
  nest_out _ _ (m.first (m.all d e i h)) = absurd (not_by_choice h refl)
  nest_out _ _ (m.second d) = m.another (m.this d)
  nest_out _ _ (m.another d) = m.another (m.later d)
  nest_out _ _ (m.all d es i h) =
      let p = unpair (not_by_choice h) d in let r = to_right i p.attributes in let s = shares_right h p.items in
      m.all p.one (m.and p.other es r.inner s.inner) r.outer s.outer

  no_member : {A : Type 0} {x : X} {k : Connector} {ts : Trees L} {xs : List Attribute} {ns : List Item} → HasNotAllowed ts
      → MatchesAll leaves In texts x k ts xs ns → A
  no_member step.this_one (m.and d es i h) = elim d [ ]
  no_member (step.later_one p) (m.and d es i h) = no_member p es

  not_weakly : {A : Type 0} {x : X} {xs : List Attribute} {ns : List Item} → Weakly leaves In texts x not_allowed xs ns → A
  not_weakly (m.as_is d) = elim d [ ]
  not_weakly (m.blank_text d h) = elim d [ ]
  not_weakly (m.nothing_there d) = elim d [ ]

  empty_first_in : {x : X} {k : Connector} {b : Tree L} → (k ≡ choice → ⊥) → Under x (joined k empty b no_trees) b
  empty_first_in n _ _ d = from_pair (unpair n d) where
    from_pair : {x : X} {k : Connector} {b : Tree L} {zs : List Attribute} {os : List Item} → Pair x k empty b zs os → M x b zs os
    from_pair p = empty_with p.one p.other p.attributes p.items where
      empty_with : {x : X} {k : Connector} {b : Tree L} {xs ys zs : List Attribute} {ms ns os : List Item} → M x empty xs ms → M x b ys ns
          → Interleaves xs ys zs → Shares k ms ns os → M x b zs os
      empty_with m.empty_is e i h = moved (right_is_all i) (nothing_left h) e

  empty_second_in : {x : X} {k : Connector} {b : Tree L} → (k ≡ choice → ⊥) → Under x (joined k b empty no_trees) b
  empty_second_in n _ _ d = from_pair (unpair n d) where
    from_pair : {x : X} {k : Connector} {b : Tree L} {zs : List Attribute} {os : List Item} → Pair x k b empty zs os → M x b zs os
    from_pair p = with_empty p.other p.one p.attributes p.items where
      with_empty : {x : X} {k : Connector} {b : Tree L} {xs ys zs : List Attribute} {ms ns os : List Item} → M x empty ys ns → M x b xs ms
          → Interleaves xs ys zs → Shares k ms ns os → M x b zs os
      with_empty m.empty_is e i h = moved (left_is_all i) (nothing_right h) e

  empties_in : {x : X} {k : Connector} → Under x (joined k empty empty no_trees) empty
  empties_in _ _ (m.first d) = d
  empties_in _ _ (m.second d) = d
  empties_in _ _ (m.another d) = elim d [ ]
  empties_in _ _ (m.all d e i h) = empty_first_in (not_by_choice h) _ _ (m.all d e i h)

  empties_out : {x : X} (k : Connector) → Under x empty (joined k empty empty no_trees)
  empties_out choice _ _ d = m.first d
  empties_out group _ _ m.empty_is = pair m.empty_is m.empty_is done (in_order refl)
  empties_out interleave _ _ m.empty_is = pair m.empty_is m.empty_is done (in_any_order done)

  mixed_in : {x : X} {a : Tree L} → Under x (mixed a) (joined interleave a text no_trees)
  mixed_in xs _ (m.mixed_with d h i) = pair d (m.text_is h) (left_alone xs) (in_any_order i)

  texts_with : {x : X} {a : Tree L} {xs ys zs : List Attribute} {ms ns os : List Item} → M x text ys ns → M x a xs ms → Interleaves xs ys zs
      → Shares interleave ms ns os → M x (mixed a) zs os
  texts_with (m.text_is h) d i (in_any_order j) = moved (left_is_all i) refl (m.mixed_with d h j)

  mixed_out : {x : X} {a : Tree L} → Under x (joined interleave a text no_trees) (mixed a)
  mixed_out _ _ d = let p = unpair (λ e. cc) d in texts_with p.other p.one p.attributes p.items

  empty_more : {x : X} → Under x (one_or_more empty) empty
  empty_more _ _ (m.once d) = d
  empty_more _ _ (m.more d e n i h) = both d (empty_more _ _ e) i h where
    both : {x : X} {xs ys zs : List Attribute} {ms ns os : List Item} → M x empty xs ms → M x empty ys ns → Interleaves xs ys zs → ms ++ ns ≡ os
        → M x empty zs os
    both m.empty_is m.empty_is i h = moved (right_is_all i) h m.empty_is

  optional_in : {x : X} {a : Tree L} → Under x (optional a) (joined choice a empty no_trees)
  optional_in _ _ m.absent = m.second m.empty_is
  optional_in _ _ (m.present d) = m.first d

  optional_out : {x : X} {a : Tree L} → Under x (joined choice a empty no_trees) (optional a)
  optional_out _ _ (m.first d) = m.present d
  optional_out _ _ (m.second m.empty_is) = m.absent
  optional_out _ _ (m.another d) = elim d [ ]
  optional_out _ _ (m.all d e i h) = absurd (not_by_choice h refl)

  zero_or_more_in : {x : X} {a : Tree L} → Under x (zero_or_more a) (joined choice (one_or_more a) empty no_trees)
  zero_or_more_in _ _ m.no_times = m.second m.empty_is
  zero_or_more_in _ _ (m.some_times d) = m.first d

  zero_or_more_out : {x : X} {a : Tree L} → Under x (joined choice (one_or_more a) empty no_trees) (zero_or_more a)
  zero_or_more_out _ _ (m.first d) = m.some_times d
  zero_or_more_out _ _ (m.second m.empty_is) = m.no_times
  zero_or_more_out _ _ (m.another d) = elim d [ ]
  zero_or_more_out _ _ (m.all d e i h) = absurd (not_by_choice h refl)

  no_attribute : {x : X} {c : NameClass} → Under x (attribute c not_allowed) not_allowed
  no_attribute _ _ (m.attribute_is i w) = not_weakly w

  no_more : {x : X} → Under x (one_or_more not_allowed) not_allowed
  no_more _ _ (m.once d) = d
  no_more _ _ (m.more d e n i h) = elim d [ ]

  no_first : {x : X} {k : Connector} {b : Tree L} {ts : Trees L} → (k ≡ choice → ⊥) → Under x (joined k not_allowed b ts) not_allowed
  no_first n _ _ (m.first d) = absurd (n refl)
  no_first n _ _ (m.second d) = absurd (n refl)
  no_first n _ _ (m.another d) = absurd (n refl)
  no_first n _ _ (m.all d es i h) = elim d [ ]

  no_second : {x : X} {k : Connector} {a : Tree L} {ts : Trees L} → (k ≡ choice → ⊥) → Under x (joined k a not_allowed ts) not_allowed
  no_second n _ _ (m.first d) = absurd (n refl)
  no_second n _ _ (m.second d) = absurd (n refl)
  no_second n _ _ (m.another d) = absurd (n refl)
  no_second n _ _ (m.all d (m.and e es j g) i h) = elim e [ ]

  no_other : {x : X} {k : Connector} {a b : Tree L} {ts : Trees L} → (k ≡ choice → ⊥) → HasNotAllowed ts → Under x (joined k a b ts) not_allowed
  no_other n p _ _ (m.first d) = absurd (n refl)
  no_other n p _ _ (m.second d) = absurd (n refl)
  no_other n p _ _ (m.another d) = absurd (n refl)
  no_other n p _ _ (m.all d (m.and e es j g) i h) = no_member p es

  other_side : {x : X} {b : Tree L} → Under x (joined choice not_allowed b no_trees) b
  other_side _ _ (m.first d) = elim d [ ]
  other_side _ _ (m.second d) = d
  other_side _ _ (m.another d) = elim d [ ]
  other_side _ _ (m.all d e i h) = absurd (not_by_choice h refl)

  one_side : {x : X} {a : Tree L} → Under x (joined choice a not_allowed no_trees) a
  one_side _ _ (m.first d) = d
  one_side _ _ (m.second d) = elim d [ ]
  one_side _ _ (m.another d) = elim d [ ]
  one_side _ _ (m.all d e i h) = absurd (not_by_choice h refl)

  swapped : {x : X} {a b : Tree L} → Under x (joined choice a b no_trees) (joined choice b a no_trees)
  swapped _ _ (m.first d) = m.second d
  swapped _ _ (m.second d) = m.first d
  swapped _ _ (m.another d) = elim d [ ]
  swapped _ _ (m.all d e i h) = absurd (not_by_choice h refl)

  empty_first_out : {x : X} {k : Connector} {b : Tree L} → (k ≡ choice → ⊥) → Under x b (joined k empty b no_trees)
  empty_first_out {k = k} n xs ns d = pair m.empty_is d (right_alone xs) (after_nothing k n ns)

  empty_second_out : {x : X} {k : Connector} {b : Tree L} → (k ≡ choice → ⊥) → Under x b (joined k b empty no_trees)
  empty_second_out {k = k} n xs ns d = pair d m.empty_is (left_alone xs) (with_nothing k n ns)

  one_this : {x : X} {a b : Tree L} {ts : Trees L} → Under x a b → OneUnder x (tree_and a ts) (tree_and b ts)
  one_this f _ _ (m.this d) = m.this (f _ _ d)
  one_this f _ _ (m.later d) = m.later d

  one_later : {x : X} {a : Tree L} (ts us : Trees L) → OneUnder x ts us → OneUnder x (tree_and a ts) (tree_and a us)
  one_later ts us f _ _ (m.this d) = m.this d
  one_later ts us f _ _ (m.later d) = m.later (f _ _ d)

  all_this : {x : X} {a b : Tree L} {ts : Trees L} → Under x a b → AllUnder x (tree_and a ts) (tree_and b ts)
  all_this f k _ _ (m.and d es i h) = m.and (f _ _ d) es i h

  all_later : {x : X} {a : Tree L} (ts us : Trees L) → AllUnder x ts us → AllUnder x (tree_and a ts) (tree_and a us)
  all_later ts us f k _ _ (m.and d es i h) = m.and d (f k _ _ es) i h

  module _ (class_in : (c d : NameClass) → ClassStep c d → (q : Name) → In c q → In d q)
      (class_out : (c d : NameClass) → ClassStep c d → (q : Name) → In d q → In c q)
      (excepts_in : (x : X) (a b : Tree L) → AnyStep a b → (w : List ℕ) → leaves.Excepts x a w → leaves.Excepts x b w)
      (excepts_out : (x : X) (a b : Tree L) → AnyStep a b → (w : List ℕ) → leaves.Excepts x b w → leaves.Excepts x a w)
      (excepts_none : (x : X) (w : List ℕ) → leaves.Excepts x not_allowed w → ⊥) where
    mutual
      pub step_in : (x : X) {g : RuleGroup} {a b : Tree L} → Step g a b → Under x a b
      step_in x step.nest = nest_in
      step_in x step.mixed_is = mixed_in
      step_in x step.optional_is = optional_in
      step_in x step.zero_or_more_is = zero_or_more_in
      step_in x step.attribute_not_allowed = no_attribute
      step_in x step.list_not_allowed = no_list
      step_in x step.one_or_more_not_allowed = no_more
      step_in x (step.first_not_allowed n) = no_first n
      step_in x (step.second_not_allowed n) = no_second n
      step_in x (step.other_not_allowed n h) = no_other n h
      step_in x step.no_first_side = other_side
      step_in x step.no_second_side = one_side
      step_in x step.no_except = no_except
      step_in x step.two_empties = empties_in
      step_in x (step.first_empty n) = empty_first_in n
      step_in x (step.second_empty n) = empty_second_in n
      step_in x (step.sides_change n) = swapped
      step_in x step.one_or_more_empty = empty_more
      step_in x (step.in_class {c} {d} s) = in_attribute (class_in c d s) (λ xs ns e. e)
      step_in x (step.in_attribute s) = in_attribute (λ q i. i) (step_in x s)
      step_in x (step.in_list s) = in_list (step_in x s)
      step_in x (step.in_except s) = in_except (excepts_out x _ _ (_, s))
      step_in x (step.in_mixed s) = in_mixed (step_in x s)
      step_in x (step.in_optional s) = in_optional (step_in x s)
      step_in x (step.in_zero_or_more s) = in_zero_or_more (step_in x s)
      step_in x (step.in_one_or_more s) = in_one_or_more (step_in x s)
      step_in x (step.in_first s) = in_first (step_in x s)
      step_in x (step.in_second s) = in_second (step_in x s)
      step_in x (step.in_others {ts = ts} {us = us} s) = in_others ts us (one_in x s) (all_in x s)

      one_in : (x : X) {g : RuleGroup} {ts us : Trees L} → StepAmong g ts us → OneUnder x ts us
      one_in x (step.this_member s) = one_this (step_in x s)
      one_in x (step.later_member {ts = ts} {us = us} s) = one_later ts us (one_in x s)

      all_in : (x : X) {g : RuleGroup} {ts us : Trees L} → StepAmong g ts us → AllUnder x ts us
      all_in x (step.this_member s) = all_this (step_in x s)
      all_in x (step.later_member {ts = ts} {us = us} s) = all_later ts us (all_in x s)

    mutual
      pub step_out : (x : X) {g : RuleGroup} {a b : Tree L} → Step g a b → Under x b a
      step_out x step.nest = nest_out
      step_out x step.mixed_is = mixed_out
      step_out x step.optional_is = optional_out
      step_out x step.zero_or_more_is = zero_or_more_out
      step_out x step.attribute_not_allowed = λ xs ns d. elim d [ ]
      step_out x step.list_not_allowed = λ xs ns d. elim d [ ]
      step_out x step.one_or_more_not_allowed = λ xs ns d. elim d [ ]
      step_out x (step.first_not_allowed n) = λ xs ns d. elim d [ ]
      step_out x (step.second_not_allowed n) = λ xs ns d. elim d [ ]
      step_out x (step.other_not_allowed n h) = λ xs ns d. elim d [ ]
      step_out x step.no_first_side = λ xs ns d. m.second d
      step_out x step.no_second_side = λ xs ns d. m.first d
      step_out x step.no_except = back_except (excepts_none x)
      step_out x step.two_empties = empties_out _
      step_out x (step.first_empty n) = empty_first_out n
      step_out x (step.second_empty n) = empty_second_out n
      step_out x (step.sides_change n) = swapped
      step_out x step.one_or_more_empty = λ xs ns d. m.once d
      step_out x (step.in_class {c} {d} s) = in_attribute (class_out c d s) (λ xs ns e. e)
      step_out x (step.in_attribute s) = in_attribute (λ q i. i) (step_out x s)
      step_out x (step.in_list s) = in_list (step_out x s)
      step_out x (step.in_except s) = in_except (excepts_in x _ _ (_, s))
      step_out x (step.in_mixed s) = in_mixed (step_out x s)
      step_out x (step.in_optional s) = in_optional (step_out x s)
      step_out x (step.in_zero_or_more s) = in_zero_or_more (step_out x s)
      step_out x (step.in_one_or_more s) = in_one_or_more (step_out x s)
      step_out x (step.in_first s) = in_first (step_out x s)
      step_out x (step.in_second s) = in_second (step_out x s)
      step_out x (step.in_others {ts = ts} {us = us} s) = in_others us ts (one_out x s) (all_out x s)

      one_out : (x : X) {g : RuleGroup} {ts us : Trees L} → StepAmong g ts us → OneUnder x us ts
      one_out x (step.this_member s) = one_this (step_out x s)
      one_out x (step.later_member {ts = ts} {us = us} s) = one_later us ts (one_out x s)

      all_out : (x : X) {g : RuleGroup} {ts us : Trees L} → StepAmong g ts us → AllUnder x us ts
      all_out x (step.this_member s) = all_this (step_out x s)
      all_out x (step.later_member {ts = ts} {us = us} s) = all_later us ts (all_out x s)

    pub steps_in : (x : X) {a b : Tree L} → Steps AnyStep a b → Under x a b
    steps_in x step.no_step = λ xs ns d. d
    steps_in x (step.step_and s e) = λ xs ns d. steps_in x e xs ns (step_in x s.1 xs ns d)

    pub steps_out : (x : X) {a b : Tree L} → Steps AnyStep a b → Under x b a
    steps_out x step.no_step = λ xs ns d. d
    steps_out x (step.step_and s e) = λ xs ns d. step_out x s.1 xs ns (steps_out x e xs ns d)
