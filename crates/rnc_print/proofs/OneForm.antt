-- Two simple grammars of a schema are the same up to the numbers of their elements, so a schema has one printed form.
use Rattle.std.proofs.Common.{◌≡◌, ◌∙◌, ℕ, ◌<◌, Bool, true, false, List, length, Some, refl, sym, ap, subst}
use Rattle.std.specs.Prelude.{Contains, slice_get}
use Rattle.std.proofs.Math.Dec.{ltb}
use Rattle.std.proofs.lemmas.Bool.{ltb-true, lt-ltb}
use Rattle.std.proofs.lemmas.List.Elements.{All-contains}
use Rattle.std.proofs.lemmas.Option.{get_or_from_slice_get, slice_get_within}
use Rattle.rng_model.specs.names.Names.{NameClass, any_name}
use Rattle.rng_model.specs.simple.Leaves.{AreLeavesBelow, renamed}
use Rattle.rng_model.specs.schema.Schema.{Schema}
use Rattle.rng_model.specs.simple.SchemaForm.{Element, SimpleForm, IsElementOf, IsOnlySimpleGrammarOf, IsSameUpToNumbering, IsSimpleFormOfSchema}
use Rattle.rng_model.specs.simple.Grammar.{Grammar}
use Rattle.rng_model.specs.simple.Tree.{Simple, s_not_allowed, as_tree}
use Rattle.rncv_model.specs.printed.Items.{element_at}
use Rattle.rnc_print.specs.plain.Renumbered.{renumbered, AreSameUpToNumbering}
use Rattle.rncv_model.specs.printed.SchemaText.{IsPrintedForm}
use Rattle.rnc_print.proofs.FailedTests.{false_true}
use Rattle.rnc_print.proofs.NamedElements.{as_many, in_rows, listed, named, named_from, row_at}
use Rattle.rnc_print.proofs.SameText.{renumbered_back, same_text}
use Rattle.rnc_print.proofs.TreeShapes.{is_below, paired_tree}

module _ (s : Schema) (g h : Grammar) (f : SimpleForm) (is : IsSimpleFormOfSchema s f) (same : IsSameUpToNumbering g f) (only : IsOnlySimpleGrammarOf s h) where
  abbrev n : ℕ
  n = length g.elements

  abbrev m : ℕ
  m = length h.elements

  abbrev row : ℕ → Element
  row k = named same.element k (element_at g k)

  abbrev rows : List Element
  rows = named_from same.element 0 g.elements

  of_rows : (x : Element) → Contains rows x → (k : ℕ) × (k < n) × (x ≡ row k)
  of_rows x c =
      let l : c.0 < n = subst (λ x. c.0 < x) (as_many same.element 0 g.elements) c.1 in
      (c.0, l, sym c.2 ∙ row_at same.element g c.0 x l)

  -- ---- the grammar's own form is one of the schema

  row_is : (k : ℕ) → k < n → IsElementOf s (row k)
  row_is k l = All-contains (IsElementOf s) f.elements (row k) is.elements (same.bodies k _ _ (listed g k l)).0

  abbrev form : SimpleForm
  form = record { start = f.start; elements = rows }

  is_form : IsSimpleFormOfSchema s form
  is_form = record {
    tree = is.tree;
    is_tree = is.is_tree;
    start = is.start;
    elements = λ k d l.
        let below : k < n = subst (λ x. k < x) (as_many same.element 0 g.elements) l in
        subst (IsElementOf s) (sym (row_at same.element g k d below)) (row_is k below);
    reached = λ l r.
        let e = is.reached l r in
        let k = All-contains (λ e. (k : ℕ) × (k < n) × (same.element k ≡ e.name)) f.elements e.0 same.all e.1 in
        (row k.0, in_rows same.element g k.0 k.1, k.2 ∙ e.2);
  }

  abbrev other : IsSameUpToNumbering h form
  other = only form is_form

  -- ---- the pairing, in both directions

  to : (k : ℕ) → k < n → (j : ℕ) × (j < m) × (other.element j ≡ same.element k)
  to k l = All-contains (λ e. (j : ℕ) × (j < m) × (other.element j ≡ e.name)) rows (row k) other.all (in_rows same.element g k l)

  from : (j : ℕ) → j < m → (k : ℕ) × (k < n) × (named other.element j (element_at h j) ≡ row k)
  from j l = of_rows (named other.element j (element_at h j)) (other.bodies j _ _ (listed h j l)).0

  to_by : (k : ℕ) (b : Bool) → ltb k n ≡ b → ℕ
  to_by k true e = (to k (ltb-true k n e)).0
  to_by k false e = 0

  from_by : (j : ℕ) (b : Bool) → ltb j m ≡ b → ℕ
  from_by j true e = (from j (ltb-true j m e)).0
  from_by j false e = 0

  to_is : (k : ℕ) (b : Bool) (e : ltb k n ≡ b) → k < n → (to_by k b e < m) × (other.element (to_by k b e) ≡ same.element k)
  unfolding to_by to
  to_is k true e l = let x = to k (ltb-true k n e) in (x.1, x.2)
  to_is k false e l = absurd (false_true (sym e ∙ lt-ltb k n l))

  from_is : (j : ℕ) (b : Bool) (e : ltb j m ≡ b) → j < m → (from_by j b e < n) × (same.element (from_by j b e) ≡ other.element j)
  unfolding from_by from
  from_is j true e l = let x = from j (ltb-true j m e) in (x.1, sym (ap (λ r. r.name) x.2))
  from_is j false e l = absurd (false_true (sym e ∙ lt-ltb j m l))

  abbrev pairing : ℕ → ℕ
  pairing k = to_by k (ltb k n) refl

  abbrev back : ℕ → ℕ
  back j = from_by j (ltb j m) refl

  paired : (k : ℕ) → k < n → (pairing k < m) × (other.element (pairing k) ≡ same.element k)
  paired k l = to_is k (ltb k n) refl l

  paired_back : (j : ℕ) → j < m → (back j < n) × (same.element (back j) ≡ other.element j)
  paired_back j l = from_is j (ltb j m) refl l

  there_and_back : (k : ℕ) → k < n → back (pairing k) ≡ k
  there_and_back k l =
      let p = paired k l in
      let b = paired_back (pairing k) p.0 in
      same.one_to_one (back (pairing k)) k b.0 l (b.1 ∙ p.1)

  back_and_there : (j : ℕ) → j < m → pairing (back j) ≡ j
  back_and_there j l =
      let b = paired_back j l in
      let p = paired (back j) b.0 in
      other.one_to_one (pairing (back j)) j p.0 l (p.1 ∙ b.1)

  below : (k : ℕ) → k < n → AreLeavesBelow n (as_tree (element_at g k).1)
  below k l = (same.bodies k _ _ (listed g k l)).1

  abbrev paired_body : (a b : Simple ℕ) → AreLeavesBelow n (as_tree a) → AreLeavesBelow m (as_tree b)
      → renamed same.element (as_tree a) ≡ renamed other.element (as_tree b) → b ≡ renumbered pairing a
  paired_body = paired_tree same.element other.element n m pairing paired other.one_to_one

  element_paired : (k : ℕ) → k < n → element_at h (pairing k) ≡ ((element_at g k).0, renumbered pairing (element_at g k).1)
  element_paired k l =
      let j = pairing k in
      let p = paired k l in
      let x = from j p.0 in
      let is_k : x.0 ≡ k = same.one_to_one x.0 k x.1 l (sym (ap (λ r. r.name) x.2) ∙ p.1) in
      let e : named other.element j (element_at h j) ≡ row k = x.2 ∙ ap row is_k in
      let body = paired_body (element_at g k).1 (element_at h j).1 (below k l) (other.bodies j _ _ (listed h j p.0)).1 (sym (ap (λ r. r.body) e)) in
      ap (λ c. (c, (element_at h j).1)) (ap (λ r. r.class) e) ∙ ap (λ b. ((element_at g k).0, b)) body

  carried : (k : ℕ) (c : NameClass) (p : Simple ℕ) → slice_get g.elements k ≡ Some (c, p) → slice_get h.elements (pairing k) ≡ Some (c, renumbered pairing p)
  carried k c p e =
      let l = slice_get_within g.elements k (c, p) e in
      let is : element_at g k ≡ (c, p) = get_or_from_slice_get g.elements k (c, p) (any_name, s_not_allowed) e in
      listed h (pairing k) (paired k l).0 ∙ ap Some (element_paired k l ∙ ap (λ r. (r.0, renumbered pairing r.1)) is)

  start_carried : h.start ≡ renumbered pairing g.start
  start_carried = paired_body g.start h.start same.start_below other.start_below (sym same.start ∙ other.start)

  carried_back : (j : ℕ) (c : NameClass) (q : Simple ℕ) → slice_get h.elements j ≡ Some (c, q) → slice_get g.elements (back j) ≡ Some (c, renumbered back q)
  carried_back j c q e =
      let l = slice_get_within h.elements j (c, q) e in
      let k = back j in
      let b = (paired_back j l).0 in
      let is : element_at h j ≡ (c, q) = get_or_from_slice_get h.elements j (c, q) (any_name, s_not_allowed) e in
      let pair : ((element_at g k).0, renumbered pairing (element_at g k).1) ≡ (c, q) =
      sym (element_paired k b) ∙ ap (element_at h) (back_and_there j l) ∙ is in
      listed g k b
      ∙ ap (λ a. Some ((element_at g k).0, a)) (sym (renumbered_back pairing back n there_and_back (element_at g k).1 (is_below n (element_at g k).1 (below k b))))
      ∙ ap (λ r. Some (r.0, renumbered back r.1)) pair

  pub same_numbering : AreSameUpToNumbering g h
  same_numbering = record {
    pairing = pairing;
    back = back;
    there = record {
      start = start_carried;
      elements = λ k c p e. (carried k c p e, (same.bodies k c p e).1);
      leads_back = there_and_back;
      start_below = same.start_below;
    };
    back_again = record {
      start = sym (renumbered_back pairing back n there_and_back g.start (is_below n g.start same.start_below)) ∙ ap (renumbered back) (sym start_carried);
      elements = λ j c q e. (carried_back j c q e, (other.bodies j c q e).1);
      leads_back = back_and_there;
      start_below = other.start_below;
    };
  }

pub one_form : (s : Schema) (t u : List ℕ) → IsPrintedForm s t → IsPrintedForm s u → t ≡ u
one_form s t u a b =
    same_text a.grammar b.grammar (same_numbering s a.grammar b.grammar a.is_form.0 a.is_form.1 a.is_form.2 b.only) t u a.is_printed b.is_printed
