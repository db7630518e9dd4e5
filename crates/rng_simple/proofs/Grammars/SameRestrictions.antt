-- The simple grammars of a schema break the same restrictions, since they differ only in the numbers of their elements.
use Rattle.std.proofs.Common.{◌≡◌, refl, ap, sym, ◌∙◌, subst, ℕ, ◌<◌, length, slice_get, Some, Contains}
use Rattle.std.proofs.lemmas.List.Elements.{All-contains}
use Rattle.rng_model.proofs.Places.{among_at, at_among}
use Rattle.rng_model.specs.names.Names.{NameClass}
use Rattle.rng_model.specs.simple.Grammar.{StandsIn, itself, below, of_attribute, of_list, of_except, of_one_or_more, of_left, of_right, Grammar}
use Rattle.rng_model.specs.restrictions.Contents.{HasProhibited, HasProhibitedInStart, BreaksContent}
use Rattle.rng_model.specs.restrictions.Restrictions.{BreaksAttributeNames, BreaksWildcard, BreaksElementNames, BreaksText, BreaksRestriction, ClassIn, IsPart}
use Rattle.rng_model.specs.restrictions.Restrictions.{the_start, a_body}
use Rattle.rng_model.specs.restrictions.Restrictions as r
use Rattle.rng_model.specs.schema.Schema.{Schema}
use Rattle.rng_model.specs.simple.SchemaForm.{Element, SimpleForm, IsElementOf, IsSimpleFormOfSchema, IsSameUpToNumbering, IsSimpleGrammarOf}
use Rattle.rng_model.specs.simple.Leaves.{LeafIn, AreLeavesBelow, renamed}
use Rattle.rng_model.specs.simple.Leaves as at
use Rattle.rng_model.specs.simple.Simplification.{IsSimpleClassOf}
use Rattle.rng_model.specs.simple.Tree.{Simple, s_leaf, as_tree}
use Rattle.rng_model.specs.schema.Unfolding.{Leaf, IsBodyOf}
use Rattle.rng_model.proofs.SimpleTrees.{same_simple}
use Rattle.rng_model.proofs.Unfolding.{one_tree}
use Rattle.rng_simple.proofs.NumberedGraphs.Graphs.{found}
use Rattle.rng_simple.specs.plain.Renamed.{simple_renamed}
use Rattle.rng_simple.proofs.Grammars.NumberedSchema.{same_element, same_class, same_form, only_simple_grammar}
use Rattle.rng_simple.proofs.Leaves.Renamed.{as_tree_renamed}
use Rattle.rng_simple.proofs.Grammars.RenamedRestrictions.{prohibited_forth, start_forth, content_forth, attribute_names_forth, wildcard_forth, element_names_forth}
use Rattle.rng_simple.proofs.Grammars.RenamedRestrictions.{text_forth}
use Rattle.rng_simple.proofs.Grammars.RenamedRestrictions.{prohibited_from, start_from, content_from, attribute_names_from, wildcard_from, element_names_from, text_from}

-- a leaf inside a pattern is a leaf of its tree
leaf_in : {k : ℕ} {p : Simple ℕ} → StandsIn (s_leaf k) p → LeafIn k (as_tree p)
leaf_in itself = at.here
leaf_in (below _ of_attribute w) = at.of_attribute (leaf_in w)
leaf_in (below _ of_list w) = at.of_list (leaf_in w)
leaf_in (below _ of_except w) = at.of_except (leaf_in w)
leaf_in (below _ of_one_or_more w) = at.of_one_or_more (leaf_in w)
leaf_in (below _ of_left w) = at.of_first (leaf_in w)
leaf_in (below _ of_right w) = at.of_second (leaf_in w)

module _ (s : Schema) (f : SimpleForm) (form : IsSimpleFormOfSchema s f) where
  -- an element of a simple form is determined by its name
  one_element : (e d : Element) → Contains f.elements e → Contains f.elements d → e.name ≡ d.name → e ≡ d
  one_element e d c b same =
      let x = All-contains (IsElementOf s) f.elements e form.elements c in
      let y = All-contains (IsElementOf s) f.elements d form.elements b in
      same_element e.name d.name e.class d.class e.body d.body same
      (same_class (subst (λ l. IsSimpleClassOf l.class e.class) same x.class) y.class)
      (same_form (one_tree s (subst (λ l. IsBodyOf s l x.tree) same x.is_tree) y.is_tree) x.body y.body)

  -- the element of this name has this class
  abbrev IsClassNamed : Leaf → NameClass → Type 0
  IsClassNamed l c = (e : Element) × Contains f.elements e × (e.name ≡ l) × (e.class ≡ c)

  module _ (g h : Grammar) (m : IsSameUpToNumbering g f) (n : IsSameUpToNumbering h f) where
    -- the same part, with the numbers of the other grammar
    record IsOther (p q : Simple ℕ) : Type 0 where
      pub same : simple_renamed m.element p ≡ simple_renamed n.element q
      pub below : AreLeavesBelow (length h.elements) (as_tree q)

    same_parts : (p q : Simple ℕ) → renamed m.element (as_tree p) ≡ renamed n.element (as_tree q) → simple_renamed m.element p ≡ simple_renamed n.element q
    same_parts p q e = same_simple (as_tree_renamed m.element p ∙ e ∙ sym (as_tree_renamed n.element q))

    record Other (c : NameClass) (p : Simple ℕ) : Type 0 where
      pub number : ℕ
      pub body : Simple ℕ
      pub there : slice_get h.elements number ≡ Some (c, body)
      pub is : IsOther p body

    other_element : (k : ℕ) (c : NameClass) (p : Simple ℕ) → slice_get g.elements k ≡ Some (c, p) → Other c p
    other_element k c p there =
        let b = m.bodies k c p there in
        let e : Element = record { name = m.element k; class = c; body = renamed m.element (as_tree p) } in
        let j = All-contains (λ y. (i : ℕ) × (i < length h.elements) × (n.element i ≡ y.name)) f.elements e n.all b.0 in
        let x = found h.elements j.0 j.1 in
        let d = n.bodies j.0 x.0.0 x.0.1 x.1 in
        let same = one_element (record { name = n.element j.0; class = x.0.0; body = renamed n.element (as_tree x.0.1) }) e d.0 b.0 j.2 in
        let class : x.0.0 ≡ c = ap (λ (y : Element). y.class) same in
        record {
          number = j.0;
          body = x.0.1;
          there = x.1 ∙ ap (λ z. Some (z, x.0.1)) class;
          is = record { same = same_parts p x.0.1 (sym (ap (λ (y : Element). y.body) same)); below = d.1 };
        }

    record Part (p : Simple ℕ) : Type 0 where
      pub part : Simple ℕ
      pub is_part : IsPart h part
      pub is : IsOther p part

    other_part : {p : Simple ℕ} → IsPart g p → Part p
    other_part the_start = record {
      part = h.start;
      is_part = the_start;
      is = record { same = same_parts g.start h.start (sym m.start ∙ n.start); below = n.start_below };
    }
    other_part (a_body {c = c} {body = body} a) =
        let k = among_at a in
        let o = other_element k.0 c body k.1 in
        record { part = o.body; is_part = a_body (at_among h.elements o.number (c, o.body) o.there); is = o.is }

    class_forth : (k : ℕ) (c : NameClass) → ClassIn g k c → IsClassNamed (m.element k) c
    class_forth k c there =
        (record { name = m.element k; class = c; body = renamed m.element (as_tree there.0) }, (m.bodies k c there.0 there.1).0, refl, refl)

    class_back : (q : Simple ℕ) → AreLeavesBelow (length h.elements) (as_tree q) → (k : ℕ) (c : NameClass) → StandsIn (s_leaf k) q
        → IsClassNamed (n.element k) c → ClassIn h k c
    class_back q under k c w named =
        let x = found h.elements k (under k (leaf_in w)) in
        let d = n.bodies k x.0.0 x.0.1 x.1 in
        let same = one_element (record { name = n.element k; class = x.0.0; body = renamed n.element (as_tree x.0.1) }) named.0 d.0 named.1 (sym named.2) in
        let class : x.0.0 ≡ c = ap (λ (y : Element). y.class) same ∙ named.3 in
        (x.0.1, x.1 ∙ ap (λ z. Some (z, x.0.1)) class)

    pub breaks_too : (clause : ℕ) → BreaksRestriction g clause → BreaksRestriction h clause
    breaks_too clause (r.in_path {p = p} i b) = let o = other_part i in
        r.in_path o.is_part (prohibited_from n.element o.part (subst (HasProhibited clause) o.is.same (prohibited_forth m.element p b)))
    breaks_too clause (r.in_start b) =
        r.in_start (start_from n.element h.start
        (subst HasProhibitedInStart (same_parts g.start h.start (sym m.start ∙ n.start)) (start_forth m.element g.start b)))
    breaks_too clause (r.in_content {c = c} {body = body} a b) =
        let k = among_at a in
        let o = other_element k.0 c body k.1 in
        r.in_content (at_among h.elements o.number (c, o.body) o.there)
        (content_from n.element o.body (subst BreaksContent o.is.same (content_forth m.element body b)))
    breaks_too clause (r.in_attribute_names {p = p} i b) = let o = other_part i in
        r.in_attribute_names o.is_part (attribute_names_from n.element o.part (subst BreaksAttributeNames o.is.same (attribute_names_forth m.element p b)))
    breaks_too clause (r.in_wildcard {p = p} i b) = let o = other_part i in
        r.in_wildcard o.is_part (wildcard_from n.element o.part (subst BreaksWildcard o.is.same (wildcard_forth m.element p b)))
    breaks_too clause (r.in_element_names {p = p} i b) = let o = other_part i in
        r.in_element_names o.is_part (element_names_from n.element (ClassIn h) IsClassNamed o.part (class_back o.part o.is.below)
        (subst (BreaksElementNames IsClassNamed) o.is.same (element_names_forth m.element (ClassIn g) IsClassNamed p class_forth b)))
    breaks_too clause (r.in_text {p = p} i b) = let o = other_part i in
        r.in_text o.is_part (text_from n.element o.part (subst BreaksText o.is.same (text_forth m.element p b)))

-- two simple grammars of a schema break the same restrictions
pub same_restrictions : (s : Schema) (g h : Grammar) → IsSimpleGrammarOf s g → IsSimpleGrammarOf s h → (clause : ℕ) → BreaksRestriction g clause
    → BreaksRestriction h clause
same_restrictions s g h a b = breaks_too s b.0 b.1 g h (only_simple_grammar s g a b.0 b.1) b.2
