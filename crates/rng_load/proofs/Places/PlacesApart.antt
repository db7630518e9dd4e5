-- The places of the grammars that are nested in one grammar: each extends its place, and no way extends two of them.
use Rattle.std.proofs.Common.{◌≡◌, refl, sym, subst, ap, ◌∙◌, ℕ, ◌+◌, ◌<◌, ◌≤◌, Bool, true, false, cond, Option, List, [], ◌∷◌, ◌++◌, length, arith}
use Rattle.std.proofs.Common.{inl, inr, filter, not}
use Rattle.std.proofs.lemmas.List.{append_assoc, length-append}
use Rattle.rng_model.specs.names.Lists.{Among, here, there}
use Rattle.rng_model.specs.schema.Patterns.{Pattern}
use Rattle.rnc_model.specs.grammar.Syntax as tree
use Rattle.rnc_model.specs.grammar.Syntax.{applied}
use Rattle.rnc_model.specs.declarations.FileTree.{FileTree}
use Rattle.rng_load.specs.plain.FoundGrammars.{nested_in}
use Rattle.rnc_model.specs.loading.Places.{TreePath, Nested, Gathered, is_overridden}
use Rattle.rnc_model.specs.loading.Places.{Reads, element_is, attribute_is, list_is, mixed_is, optional_is, zero_or_more_is, one_or_more_is, ref_is}
use Rattle.rnc_model.specs.loading.Places.{parent_ref_is}
use Rattle.rnc_model.specs.loading.Places.{empty_is, text_is, not_allowed_is, value_is, data_is, except_is, grammar_is, pattern_file_is, grammar_file_is}
use Rattle.rnc_model.specs.loading.Places.{joined_is}
use Rattle.rnc_model.specs.loading.Places.{ReadAll, none_are, more_are}
use Rattle.rnc_model.specs.loading.LoadedSchema.{Gathers, nothing, a_start, a_define, a_div, an_include}
use Rattle.rng_load.proofs.NameLists.{in_none, in_cons, in_either, in_left, in_right}

-- ---- ways

-- a way is not an extension of itself
pub longer : (x f : TreePath) (i : ℕ) → x ≡ f ++ i ∷ x → ⊥
longer x f i e = omega (arith, ap length e, length-append f (i ∷ x))

-- equal ways that extend children of one place extend the same child
pub one_child : (f g x : TreePath) (i j : ℕ) → f ++ i ∷ x ≡ g ++ j ∷ x → i ≡ j
one_child [] [] x i j e = cc
one_child [] (c ∷ g) x i j e = let t : x ≡ g ++ j ∷ x = cc in absurd (longer x g j t)
one_child (c ∷ f) [] x i j e = let t : f ++ i ∷ x ≡ x = cc in absurd (longer x f i (sym t))
one_child (c ∷ f) (d ∷ g) x i j e = one_child f g x i j cc

-- no way extends both
abbrev pub Apart : TreePath → TreePath → Type 0
Apart x y = (f g : TreePath) → f ++ x ≡ g ++ y → ⊥

children_apart : {y z : TreePath} (f g x : TreePath) {i j : ℕ} → y ≡ f ++ i ∷ x → z ≡ g ++ j ∷ x → i < j → Apart y z
children_apart f g x {i} {j} d e l h k w =
    let on = append_assoc h f (i ∷ x) ∙ ap (λ v. h ++ v) (sym d) in
    let s : (h ++ f) ++ i ∷ x ≡ (k ++ g) ++ j ∷ x = on ∙ w ∙ ap (λ v. k ++ v) e ∙ sym (append_assoc k g (j ∷ x)) in
    omega (arith, l, one_child (h ++ f) (k ++ g) x i j s)

-- ---- lists of nested grammars

-- no way extends the places of two of them
pub data AllApart : List Nested → Type 0 where
  none_apart : AllApart []
  more_apart : {n : Nested} {ns : List Nested} → ((m : Nested) → Among m ns → Apart n.place m.place) → AllApart ns → AllApart (n ∷ ns)

-- places with a common extension are equal
pub same_entry : {ns : List Nested} {n m : Nested} (f g : TreePath) → AllApart ns → Among n ns → Among m ns → f ++ n.place ≡ g ++ m.place → n ≡ m
same_entry f g none_apart i j e = absurd (in_none i)
same_entry f g (more_apart a more) here here e = refl
same_entry {m = m} f g (more_apart a more) here (there j) e = absurd (a m j f g e)
same_entry {n = n} f g (more_apart a more) (there i) here e = absurd (a n i g f (sym e))
same_entry f g (more_apart a more) (there i) (there j) e = same_entry f g more i j e

both_apart : {ns ms : List Nested} → AllApart ns → AllApart ms → ((n m : Nested) → Among n ns → Among m ms → Apart n.place m.place) → AllApart (ns ++ ms)
both_apart none_apart b h = b
both_apart (more_apart {n} {ns} a more) b h =
    more_apart (λ m i. elim (in_either ns i) [ inl j ↦ a m j | inr j ↦ h n m here j ]) (both_apart more b (λ k m i j. h k m (there i) j))

left_apart : (ns ms : List Nested) → AllApart (ns ++ ms) → AllApart ns
left_apart [] ms a = none_apart
left_apart (n ∷ ns) ms (more_apart a more) = more_apart (λ m i. a m (in_left i ms)) (left_apart ns ms more)

right_apart : (ns ms : List Nested) → AllApart (ns ++ ms) → AllApart ms
right_apart [] ms a = a
right_apart (n ∷ ns) ms (more_apart a more) = right_apart ns ms more

across_apart : {n m : Nested} {ns ms : List Nested} → Among n ns → Among m ms → AllApart (ns ++ ms) → Apart n.place m.place
across_apart {m = m} (here {xs = ns}) j (more_apart a more) = a m (in_right ns j)
across_apart (there i) j (more_apart a more) = across_apart i j more

-- all their places equal or extend this one, and they are apart
pub record Inside (x : TreePath) (ns : List Nested) : Type 0 where
  pub leads : (n : Nested) → Among n ns → (f : TreePath) × (n.place ≡ f ++ x)
  pub apart : AllApart ns

-- all their places equal or extend children of this one from number k on, and they are apart
pub record Children (x : TreePath) (k : ℕ) (ns : List Nested) : Type 0 where
  pub leads : (n : Nested) → Among n ns → (f : TreePath) × (i : ℕ) × (k ≤ i) × (n.place ≡ f ++ i ∷ x)
  pub apart : AllApart ns

nowhere : (x : TreePath) → Inside x []
nowhere x = record { leads = λ n i. absurd (in_none i); apart = none_apart }

no_children : (x : TreePath) (k : ℕ) → Children x k []
no_children x k = record { leads = λ n i. absurd (in_none i); apart = none_apart }

itself : (n : Nested) → Inside n.place (n ∷ [])
itself n = record {
  leads = λ m i. elim (in_cons i) [ inl e ↦ ([], ap (λ k. k.place) e) | inr j ↦ absurd (in_none j) ];
  apart = more_apart (λ m i. absurd (in_none i)) none_apart;
}

inside_of : {x : TreePath} {k : ℕ} {ns : List Nested} → Children x k ns → Inside x ns
inside_of {x} c = record {
  leads = λ n i. let l = c.leads n i in (l.0 ++ l.1 ∷ [], l.3 ∙ sym (append_assoc l.0 (l.1 ∷ []) x));
  apart = c.apart;
}

first_child : {x : TreePath} {k : ℕ} {ns : List Nested} → Inside (k ∷ x) ns → Children x k ns
first_child {k = k} c = record {
  leads = λ n i. let l = c.leads n i in (l.0, k, omega arith, l.1);
  apart = c.apart;
}

more_children : {x : TreePath} {k : ℕ} {ns ms : List Nested} → Inside (k ∷ x) ns → Children x (k + 1) ms → Children x k (ns ++ ms)
more_children {x} {k} {ns} {ms} a b = record {
  leads = λ n i. elim (in_either ns i) [ inl j ↦ (first_child a).leads n j | inr j ↦ let l = b.leads n j in (l.0, l.1, omega (arith, l.2), l.3) ];
  apart = both_apart a.apart b.apart (λ n m i j. let h = a.leads n i in let l = b.leads m j in children_apart h.0 l.0 x h.1 l.3 (omega (arith, l.2)));
}

-- ---- the grammars that are nested in gathered components

-- the grammars of one component are among those of all
pub in_nested : {g : Gathered} {gs : List Gathered} {n : Nested} → Among g gs → Among n g.nested → Among n (nested_in gs)
in_nested (here {xs = gs}) i = in_left i (nested_in gs)
in_nested (there {y = h} j) i = in_right h.nested (in_nested j i)

pub nested_in_both : (gs hs : List Gathered) → nested_in (gs ++ hs) ≡ nested_in gs ++ nested_in hs
nested_in_both [] hs = refl
nested_in_both (g ∷ gs) hs = ap (λ ns. g.nested ++ ns) (nested_in_both gs hs) ∙ sym (append_assoc g.nested (nested_in gs) (nested_in hs))

-- ---- the result of a filter

module _ (test : Gathered → Bool) where
  in_kept : (b : Bool) (g : Gathered) (gs : List Gathered) {n : Nested} → (Among n (nested_in (filter test gs)) → Among n (nested_in gs))
      → Among n (nested_in (cond b (g ∷ filter test gs) (filter test gs))) → Among n (g.nested ++ nested_in gs)
  in_kept true g gs ih i = elim (in_either g.nested i) [ inl j ↦ in_left j (nested_in gs) | inr j ↦ in_right g.nested (ih j) ]
  in_kept false g gs ih i = in_right g.nested (ih i)

  pub in_filter : (gs : List Gathered) {n : Nested} → Among n (nested_in (filter test gs)) → Among n (nested_in gs)
  in_filter [] i = i
  in_filter (g ∷ gs) i = in_kept (test g) g gs (in_filter gs) i

  kept_apart : (b : Bool) (g : Gathered) (gs : List Gathered) → AllApart (g.nested ++ nested_in gs) → AllApart (nested_in (filter test gs))
      → AllApart (nested_in (cond b (g ∷ filter test gs) (filter test gs)))
  kept_apart true g gs a ih = both_apart (left_apart g.nested (nested_in gs) a) ih (λ n m i j. across_apart i (in_filter gs j) a)
  kept_apart false g gs a ih = ih

  filter_apart : (gs : List Gathered) → AllApart (nested_in gs) → AllApart (nested_in (filter test gs))
  filter_apart [] a = a
  filter_apart (g ∷ gs) a = kept_apart (test g) g gs a (filter_apart gs (right_apart g.nested (nested_in gs) a))

  filter_inside : {x : TreePath} (gs : List Gathered) → Inside x (nested_in gs) → Inside x (nested_in (filter test gs))
  filter_inside gs a = record { leads = λ n i. a.leads n (in_filter gs i); apart = filter_apart gs a.apart }

-- ---- what is read and gathered

module _ (files : List ℕ → Option FileTree) where
  mutual
    -- the grammars that are nested in a pattern are at its place or at extensions of it
    pub nested_inside : {u : List ℕ} {x : TreePath} {a : tree.PatternAt applied} {p : Pattern} {gs : List Nested} → Reads files u x a p gs → Inside x gs
    nested_inside (element_is d) = inside_of (first_child (nested_inside d))
    nested_inside (attribute_is d) = inside_of (first_child (nested_inside d))
    nested_inside (list_is d) = inside_of (first_child (nested_inside d))
    nested_inside (mixed_is d) = inside_of (first_child (nested_inside d))
    nested_inside (optional_is d) = inside_of (first_child (nested_inside d))
    nested_inside (zero_or_more_is d) = inside_of (first_child (nested_inside d))
    nested_inside (one_or_more_is d) = inside_of (first_child (nested_inside d))
    nested_inside ref_is = nowhere _
    nested_inside parent_ref_is = nowhere _
    nested_inside empty_is = nowhere _
    nested_inside text_is = nowhere _
    nested_inside not_allowed_is = nowhere _
    nested_inside value_is = nowhere _
    nested_inside data_is = nowhere _
    nested_inside (except_is d) = inside_of (first_child (nested_inside d))
    nested_inside grammar_is = itself _
    nested_inside (pattern_file_is f d) = inside_of (first_child (nested_inside d))
    nested_inside (grammar_file_is f) = itself _
    nested_inside (joined_is d) = inside_of (nested_children d)

    -- the grammars that are nested in these patterns are at their places or at extensions of them
    pub nested_children : {u : List ℕ} {x : TreePath} {k : ℕ} {all : tree.PatternsAt applied} {ps : List Pattern} {gs : List Nested}
        → ReadAll files u x k all ps gs → Children x k gs
    nested_children none_are = no_children _ _
    nested_children (more_are {u} {x} {n = k} d ds e) = subst (Children x k) (sym e) (more_children (nested_inside d) (nested_children ds))

  -- the grammars that are nested in the components of a grammar are at its children or at extensions of them
  pub gathered_children : {u : List ℕ} {x : TreePath} {k : ℕ} {cs : tree.ComponentsAt applied} {all : List Gathered} → Gathers files u x k cs all
      → Children x k (nested_in all)
  gathered_children nothing = no_children _ _
  gathered_children (a_start d ds) = more_children (nested_inside d) (gathered_children ds)
  gathered_children (a_define d ds) = more_children (nested_inside d) (gathered_children ds)
  gathered_children (a_div {u} {x} {n = k} {inner = inner} {rest} d ds e) =
      subst (Children x k) (sym (ap nested_in e ∙ nested_in_both inner rest)) (more_children (inside_of (gathered_children d)) (gathered_children ds))
  gathered_children (an_include {u} {x} {n = k} {included = included} {overriding} {rest} f i d o r e) =
      let left = filter (λ g. not (is_overridden overriding g)) included in
      let file = filter_inside (λ g. not (is_overridden overriding g)) included (inside_of (gathered_children d)) in
      let both = more_children file (first_child (inside_of (gathered_children o))) in
      let places = ap nested_in e ∙ nested_in_both (left ++ overriding) rest ∙ ap (λ ns. ns ++ nested_in rest) (nested_in_both left overriding) in
      subst (Children x k) (sym places) (more_children (inside_of both) (gathered_children r))
