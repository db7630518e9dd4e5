-- A step does not change the lists of texts that a tree has.
use Rattle.std.proofs.Common.{◌≡◌, refl, ◌∙◌, sym, subst, List, [], ℕ, ◌⊎◌, inl, inr}
use Rattle.rng_model.specs.simple.Tree.{Connector, choice, group, interleave, Tree, not_allowed, empty, text, mixed, joined, Trees, no_trees, tree_and}
use Rattle.rng_model.specs.simple.Simplification.{RuleGroup, HasNotAllowed, Step, StepAmong}
use Rattle.rng_model.specs.simple.Simplification as step
use Rattle.rng_model.specs.matching.Document.{Interleaves, Shares, in_any_order}
use Rattle.rng_model.specs.datatypes.Texts.{Texts}
use Rattle.rng_model.specs.matching.Matching.{Lex, LexOne, LexAll, Repeats, one_list, more_lists}
use Rattle.rng_simple.proofs.Matching.ThreeParts.{shares_left, shares_right, nothing_right, nothing_left, with_nothing, after_nothing}
use Rattle.rng_simple.proofs.Matching.NestedNames.{shift, unshift, either}

-- each of the lists may be replaced
pub repeats : (P Q : List (List ℕ) → Type 0) → ((ws : List (List ℕ)) → P ws → Q ws) → {ws : List (List ℕ)} → Repeats P ws → Repeats Q ws
repeats P Q f (one_list d) = one_list (f _ d)
repeats P Q f (more_lists d e h) = more_lists (f _ d) (repeats P Q f e) h

not_choice_group : group ≡ choice → ⊥
not_choice_group e = cc

not_choice_interleave : interleave ≡ choice → ⊥
not_choice_interleave e = cc

module _ (L : Type 0) (texts : Texts) where
  abbrev Has : Tree L → List (List ℕ) → Type 0
  Has = Lex texts

  abbrev Under : Tree L → Tree L → Type 0
  Under a b = (ws : List (List ℕ)) → Has a ws → Has b ws

  -- `,` and `&` as one, as `Lex` treats them
  from_all : (k : Connector) → (k ≡ choice → ⊥) → (a b : Tree L) (ts : Trees L) (ws : List (List ℕ)) → LexAll texts k (tree_and a (tree_and b ts)) ws
      → Has (joined k a b ts) ws
  from_all choice n a b ts ws h = absurd (n refl)
  from_all group n a b ts ws h = h
  from_all interleave n a b ts ws h = h

  as_all : (k : Connector) → (k ≡ choice → ⊥) → (a b : Tree L) (ts : Trees L) (ws : List (List ℕ)) → Has (joined k a b ts) ws
      → LexAll texts k (tree_and a (tree_and b ts)) ws
  as_all choice n a b ts ws h = absurd (n refl)
  as_all group n a b ts ws h = h
  as_all interleave n a b ts ws h = h

  pair : (k : Connector) → (k ≡ choice → ⊥) → (a b : Tree L) (us vs ws : List (List ℕ)) → Has a us → Has b vs → Shares k us vs ws
      → Has (joined k a b no_trees) ws
  pair k n a b us vs ws d e h = from_all k n a b no_trees ws (us, vs, d, (vs, [], e, refl, with_nothing k n vs), h)

  unpair : (k : Connector) → (k ≡ choice → ⊥) → (a b : Tree L) (ws : List (List ℕ)) → Has (joined k a b no_trees) ws
      → (us : List (List ℕ)) × (vs : List (List ℕ)) × Has a us × Has b vs × Shares k us vs ws
  unpair k n a b ws h =
      let g = as_all k n a b no_trees ws h in
      let e : g.3.0 ≡ g.1 = nothing_right (subst (λ zs. Shares k g.3.0 zs g.1) g.3.3 g.3.4) in
      (g.0, g.1, g.2, subst (λ zs. Has b zs) e g.3.2, g.4)

  nest_all_in : (k : Connector) → (k ≡ choice → ⊥) → (a b c : Tree L) (cs : Trees L) (ws : List (List ℕ))
      → LexAll texts k (tree_and a (tree_and b (tree_and c cs))) ws → LexAll texts k (tree_and (joined k a b no_trees) (tree_and c cs)) ws
  nest_all_in k n a b c cs ws h = let r = shares_left h.4 h.3.4 in (r.two, h.3.1, pair k n a b h.0 h.3.0 r.two h.2 h.3.2 r.inner, h.3.3, r.outer)

  nest_all_out : (k : Connector) → (k ≡ choice → ⊥) → (a b c : Tree L) (cs : Trees L) (ws : List (List ℕ))
      → LexAll texts k (tree_and (joined k a b no_trees) (tree_and c cs)) ws → LexAll texts k (tree_and a (tree_and b (tree_and c cs))) ws
  nest_all_out k n a b c cs ws h = let p = unpair k n a b h.0 h.2 in let r = shares_right h.4 p.4 in (p.0, r.two, p.2, (p.1, h.1, p.3, h.3, r.inner), r.outer)

  nest_in : (k : Connector) (a b c : Tree L) (cs : Trees L) → Under (joined k a b (tree_and c cs)) (joined k (joined k a b no_trees) c cs)
  nest_in choice a b c cs ws h = shift h
  nest_in group a b c cs ws h = nest_all_in group not_choice_group a b c cs ws h
  nest_in interleave a b c cs ws h = nest_all_in interleave not_choice_interleave a b c cs ws h

  nest_out : (k : Connector) (a b c : Tree L) (cs : Trees L) → Under (joined k (joined k a b no_trees) c cs) (joined k a b (tree_and c cs))
  nest_out choice a b c cs ws h = unshift h
  nest_out group a b c cs ws h = nest_all_out group not_choice_group a b c cs ws h
  nest_out interleave a b c cs ws h = nest_all_out interleave not_choice_interleave a b c cs ws h

  -- inside a tree
  in_first : (k : Connector) (a b c : Tree L) (ts : Trees L) → Under a b → Under (joined k a c ts) (joined k b c ts)
  in_first choice a b c ts f ws h = either (f ws) (λ e. e) h
  in_first group a b c ts f ws h = (h.0, h.1, f h.0 h.2, h.3, h.4)
  in_first interleave a b c ts f ws h = (h.0, h.1, f h.0 h.2, h.3, h.4)

  in_second : (k : Connector) (a b c : Tree L) (ts : Trees L) → Under a b → Under (joined k c a ts) (joined k c b ts)
  in_second choice a b c ts f ws h = either (λ e. e) (λ g. either (f ws) (λ e. e) g) h
  in_second group a b c ts f ws h = (h.0, h.1, h.2, (h.3.0, h.3.1, f h.3.0 h.3.2, h.3.3, h.3.4), h.4)
  in_second interleave a b c ts f ws h = (h.0, h.1, h.2, (h.3.0, h.3.1, f h.3.0 h.3.2, h.3.3, h.3.4), h.4)

  in_others : (k : Connector) (a b : Tree L) (ts us : Trees L) → ((ws : List (List ℕ)) → LexOne texts ts ws → LexOne texts us ws)
      → ((k : Connector) (ws : List (List ℕ)) → LexAll texts k ts ws → LexAll texts k us ws) → Under (joined k a b ts) (joined k a b us)
  in_others choice a b ts us f g ws h = either (λ e. e) (λ i. either (λ e. e) (f ws) i) h
  in_others group a b ts us f g ws h = (h.0, h.1, h.2, (h.3.0, h.3.1, h.3.2, g group h.3.1 h.3.3, h.3.4), h.4)
  in_others interleave a b ts us f g ws h = (h.0, h.1, h.2, (h.3.0, h.3.1, h.3.2, g interleave h.3.1 h.3.3, h.3.4), h.4)

  -- each rule
  nothing_repeats : {A : Type 0} {ws : List (List ℕ)} → Repeats (λ us. Has not_allowed us) ws → A
  nothing_repeats (one_list d) = absurd d
  nothing_repeats (more_lists d e h) = absurd d

  no_first : (k : Connector) (b : Tree L) (ts : Trees L) → (k ≡ choice → ⊥) → Under (joined k not_allowed b ts) not_allowed
  no_first choice b ts n ws h = n refl
  no_first group b ts n ws h = h.2
  no_first interleave b ts n ws h = h.2

  no_second : (k : Connector) (a : Tree L) (ts : Trees L) → (k ≡ choice → ⊥) → Under (joined k a not_allowed ts) not_allowed
  no_second choice a ts n ws h = n refl
  no_second group a ts n ws h = h.3.2
  no_second interleave a ts n ws h = h.3.2

  no_member : {ts : Trees L} → HasNotAllowed ts → (k : Connector) (ws : List (List ℕ)) → LexAll texts k ts ws → ⊥
  no_member step.this_one k ws h = h.2
  no_member (step.later_one p) k ws h = no_member p k h.1 h.3

  no_other : (k : Connector) (a b : Tree L) {ts : Trees L} → (k ≡ choice → ⊥) → HasNotAllowed ts → Under (joined k a b ts) not_allowed
  no_other choice a b n p ws h = n refl
  no_other group a b n p ws h = no_member p group h.3.1 h.3.3
  no_other interleave a b n p ws h = no_member p interleave h.3.1 h.3.3

  right_side : {B : Type 0} → ⊥ ⊎ (B ⊎ ⊥) → B
  right_side (inl e) = absurd e
  right_side (inr (inl d)) = d
  right_side (inr (inr e)) = absurd e

  left_side : {A : Type 0} → A ⊎ (⊥ ⊎ ⊥) → A
  left_side (inl d) = d
  left_side (inr (inl e)) = absurd e
  left_side (inr (inr e)) = absurd e

  swapped : {A B : Type 0} → A ⊎ (B ⊎ ⊥) → B ⊎ (A ⊎ ⊥)
  swapped (inl d) = inr (inl d)
  swapped (inr (inl d)) = inl d
  swapped (inr (inr e)) = absurd e

  pair_or_not : {A B : Type 0} → A ⊎ B → B ⊎ (A ⊎ ⊥)
  pair_or_not (inl d) = inr (inl d)
  pair_or_not (inr d) = inl d

  or_not : {A B : Type 0} → B ⊎ (A ⊎ ⊥) → A ⊎ B
  or_not (inl d) = inr d
  or_not (inr (inl d)) = inl d
  or_not (inr (inr e)) = absurd e

  first_empty_in : (k : Connector) (b : Tree L) → (k ≡ choice → ⊥) → Under (joined k empty b no_trees) b
  first_empty_in k b n ws h = let p = unpair k n empty b ws h in subst (λ zs. Has b zs) (nothing_left (subst (λ zs. Shares k zs p.1 ws) p.2 p.4)) p.3

  second_empty_in : (k : Connector) (a : Tree L) → (k ≡ choice → ⊥) → Under (joined k a empty no_trees) a
  second_empty_in k a n ws h = let p = unpair k n a empty ws h in subst (λ zs. Has a zs) (nothing_right (subst (λ zs. Shares k p.0 zs ws) p.3 p.4)) p.2

  empties_in : (k : Connector) → Under (joined k empty empty no_trees) empty
  empties_in choice ws (inl h) = h
  empties_in choice ws (inr (inl h)) = h
  empties_in choice ws (inr (inr h)) = absurd h
  empties_in group ws h = first_empty_in group empty not_choice_group ws h
  empties_in interleave ws h = first_empty_in interleave empty not_choice_interleave ws h

  empties_out : (k : Connector) → Under empty (joined k empty empty no_trees)
  empties_out choice ws h = inl h
  empties_out group ws h = pair group not_choice_group empty empty [] ws ws refl h (after_nothing group not_choice_group ws)
  empties_out interleave ws h = pair interleave not_choice_interleave empty empty [] ws ws refl h (after_nothing interleave not_choice_interleave ws)

  mixed_in : (a : Tree L) → Under (mixed a) (joined interleave a text no_trees)
  mixed_in a ws h = pair interleave not_choice_interleave a text h.0 h.1 ws h.2 tt (in_any_order h.3)

  as_interleaved : {us vs ws : List (List ℕ)} → Shares interleave us vs ws → Interleaves us vs ws
  as_interleaved (in_any_order i) = i

  mixed_out : (a : Tree L) → Under (joined interleave a text no_trees) (mixed a)
  mixed_out a ws h = let p = unpair interleave not_choice_interleave a text ws h in (p.0, p.1, p.2, as_interleaved p.4)

  empty_repeats : {ws : List (List ℕ)} → Repeats (λ us. us ≡ []) ws → ws ≡ []
  empty_repeats (one_list d) = d
  empty_repeats (more_lists d e h) = let f = empty_repeats e in sym h ∙ (rw (d, f) refl)

  mutual
    pub lex_in : {g : RuleGroup} {a b : Tree L} → Step g a b → Under a b
    lex_in (step.nest {k} {a} {b} {c} {cs}) ws h = nest_in k a b c cs ws h
    lex_in (step.mixed_is {a}) ws h = mixed_in a ws h
    lex_in step.optional_is ws h = pair_or_not h
    lex_in step.zero_or_more_is ws h = pair_or_not h
    lex_in step.attribute_not_allowed ws h = h
    lex_in step.list_not_allowed ws h = h.2
    lex_in step.one_or_more_not_allowed ws h = nothing_repeats h
    lex_in (step.first_not_allowed {k} {b} {ts} n) ws h = no_first k b ts n ws h
    lex_in (step.second_not_allowed {k} {a} {ts} n) ws h = no_second k a ts n ws h
    lex_in (step.other_not_allowed {k} {a} {b} n p) ws h = no_other k a b n p ws h
    lex_in step.no_first_side ws h = right_side h
    lex_in step.no_second_side ws h = left_side h
    lex_in step.no_except ws h = (h.0, h.1, h.2)
    lex_in (step.two_empties {k}) ws h = empties_in k ws h
    lex_in (step.first_empty {k} {b} n) ws h = first_empty_in k b n ws h
    lex_in (step.second_empty {k} {a} n) ws h = second_empty_in k a n ws h
    lex_in (step.sides_change n) ws h = swapped h
    lex_in step.one_or_more_empty ws h = empty_repeats h
    lex_in (step.in_class s) ws h = h
    lex_in (step.in_attribute s) ws h = h
    lex_in (step.in_list s) ws h = (h.0, h.1, lex_in s _ h.2)
    lex_in (step.in_except s) ws h = (h.0, h.1, h.2, λ z. h.3 (lex_out s _ z))
    lex_in (step.in_mixed s) ws h = (h.0, h.1, lex_in s _ h.2, h.3)
    lex_in (step.in_optional s) ws h = either (λ e. e) (lex_in s ws) h
    lex_in (step.in_zero_or_more {g} {a} {b} s) ws h = either (λ e. e) (repeats (Has a) (Has b) (lex_in s)) h
    lex_in (step.in_one_or_more {g} {a} {b} s) ws h = repeats (Has a) (Has b) (lex_in s) h
    lex_in (step.in_first {g} {k} {a} {b} {c} {ts} s) ws h = in_first k a b c ts (lex_in s) ws h
    lex_in (step.in_second {g} {k} {a} {b} {c} {ts} s) ws h = in_second k a b c ts (lex_in s) ws h
    lex_in (step.in_others {g} {k} {a} {b} {ts} {us} s) ws h = in_others k a b ts us (one_in s) (all_in s) ws h

    one_in : {g : RuleGroup} {ts us : Trees L} → StepAmong g ts us → (ws : List (List ℕ)) → LexOne texts ts ws → LexOne texts us ws
    one_in (step.this_member s) ws h = either (lex_in s ws) (λ e. e) h
    one_in (step.later_member s) ws h = either (λ e. e) (one_in s ws) h

    all_in : {g : RuleGroup} {ts us : Trees L} → StepAmong g ts us → (k : Connector) (ws : List (List ℕ)) → LexAll texts k ts ws → LexAll texts k us ws
    all_in (step.this_member s) k ws h = (h.0, h.1, lex_in s h.0 h.2, h.3, h.4)
    all_in (step.later_member s) k ws h = (h.0, h.1, h.2, all_in s k h.1 h.3, h.4)

    pub lex_out : {g : RuleGroup} {a b : Tree L} → Step g a b → Under b a
    lex_out (step.nest {k} {a} {b} {c} {cs}) ws h = nest_out k a b c cs ws h
    lex_out (step.mixed_is {a}) ws h = mixed_out a ws h
    lex_out step.optional_is ws h = or_not h
    lex_out step.zero_or_more_is ws h = or_not h
    lex_out step.attribute_not_allowed ws h = h
    lex_out step.list_not_allowed ws h = absurd h
    lex_out step.one_or_more_not_allowed ws h = absurd h
    lex_out (step.first_not_allowed {k} {b} {ts} n) ws h = absurd h
    lex_out (step.second_not_allowed {k} {a} {ts} n) ws h = absurd h
    lex_out (step.other_not_allowed {k} {a} {b} n p) ws h = absurd h
    lex_out step.no_first_side ws h = inr (inl h)
    lex_out step.no_second_side ws h = inl h
    lex_out step.no_except ws h = (h.0, h.1, h.2, λ z. z)
    lex_out (step.two_empties {k}) ws h = empties_out k ws h
    lex_out (step.first_empty {k} {b} n) ws h = pair k n empty b [] ws ws refl h (after_nothing k n ws)
    lex_out (step.second_empty {k} {a} n) ws h = pair k n a empty ws [] ws h refl (with_nothing k n ws)
    lex_out (step.sides_change n) ws h = swapped h
    lex_out step.one_or_more_empty ws h = one_list h
    lex_out (step.in_class s) ws h = h
    lex_out (step.in_attribute s) ws h = h
    lex_out (step.in_list s) ws h = (h.0, h.1, lex_out s _ h.2)
    lex_out (step.in_except s) ws h = (h.0, h.1, h.2, λ z. h.3 (lex_in s _ z))
    lex_out (step.in_mixed s) ws h = (h.0, h.1, lex_out s _ h.2, h.3)
    lex_out (step.in_optional s) ws h = either (λ e. e) (lex_out s ws) h
    lex_out (step.in_zero_or_more {g} {a} {b} s) ws h = either (λ e. e) (repeats (Has b) (Has a) (lex_out s)) h
    lex_out (step.in_one_or_more {g} {a} {b} s) ws h = repeats (Has b) (Has a) (lex_out s) h
    lex_out (step.in_first {g} {k} {a} {b} {c} {ts} s) ws h = in_first k b a c ts (lex_out s) ws h
    lex_out (step.in_second {g} {k} {a} {b} {c} {ts} s) ws h = in_second k b a c ts (lex_out s) ws h
    lex_out (step.in_others {g} {k} {a} {b} {ts} {us} s) ws h = in_others k a b us ts (one_out s) (all_out s) ws h

    one_out : {g : RuleGroup} {ts us : Trees L} → StepAmong g ts us → (ws : List (List ℕ)) → LexOne texts us ws → LexOne texts ts ws
    one_out (step.this_member s) ws h = either (lex_out s ws) (λ e. e) h
    one_out (step.later_member s) ws h = either (λ e. e) (one_out s ws) h

    all_out : {g : RuleGroup} {ts us : Trees L} → StepAmong g ts us → (k : Connector) (ws : List (List ℕ)) → LexAll texts k us ws → LexAll texts k ts ws
    all_out (step.this_member s) k ws h = (h.0, h.1, lex_out s h.0 h.2, h.3, h.4)
    all_out (step.later_member s) k ws h = (h.0, h.1, h.2, all_out s k h.1 h.3, h.4)
