-- A numbering is the simple form of the schema, up to numbering, and so is every other simple form of it.
use Rattle.std.proofs.Common.{◌≡◌, refl, ap, sym, ◌∙◌, subst, ℕ, ◌<◌, List, length, map, All, Some, slice_get, slice_index_or, Contains, arith}
use Rattle.std.proofs.lemmas.List.{get_or_default}
use Rattle.std.proofs.lemmas.List.Elements.{All-map, All-weaker, All-contains, Contains-get_or}
use Rattle.std.proofs.lemmas.Option.{slice_get_within}
use Rattle.rng_model.proofs.Members.{contains_mapped}
use Rattle.rng_model.specs.names.Names.{NameClass}
use Rattle.rng_model.specs.simple.Tree.{Tree, Simple, as_tree}
use Rattle.rng_model.specs.simple.Simplification.{IsSimpleClassOf, IsSimpleFormOf}
use Rattle.rng_simple.specs.plain.InTwos.{nested}
use Rattle.rng_simple.specs.plain.SimpleOf.{simple_of}
use Rattle.rng_model.specs.schema.Schema.{Schema, Definition, main_start}
use Rattle.rng_model.specs.simple.Leaves.{LeafIn, renamed, AreLeavesBelow}
use Rattle.rng_model.specs.schema.Unfolding.{Leaf, Unfolds, IsTreeOf, IsBodyOf, IsReachedBySimpleForms, from_simple_start, from_simple_body}
use Rattle.rng_simple.specs.plain.Expansion.{KeepsExpansion}
use Rattle.rng_simple.specs.plain.Renamed.{simple_renamed}
use Rattle.rng_model.specs.simple.SchemaForm.{Element, SimpleForm, IsElementOf, IsSimpleFormOfSchema, IsSameUpToNumbering, IsSimpleGrammarOf}
use Rattle.rng_model.specs.simple.SchemaForm.{IsOnlySimpleGrammarOf}
use Rattle.rng_model.specs.simple.Grammar.{Grammar}
use Rattle.rng_simple.specs.plain.Numbering.{no_element, element_at, AreBodies, IsNumbering}
use Rattle.rng_model.proofs.Unfolding.{one_tree}
use Rattle.rng_model.proofs.Options.{one_value}
use Rattle.rng_simple.proofs.NumberedGraphs.Graphs.{found}
use Rattle.rng_simple.proofs.Trees.SimpleClass.{has_simple_class, is_only_simple_class}
use Rattle.rng_simple.proofs.Trees.SimpleForms.{has_simple_form, is_only_simple_form}
use Rattle.rng_simple.proofs.Leaves.Renamed.{as_tree_renamed, origin}
use Rattle.rng_simple.proofs.Leaves.SimpleLeaves.{simply_is_reached}

pub same_element : (l m : Leaf) (c d : NameClass) (a b : Tree Leaf) → l ≡ m → c ≡ d → a ≡ b
    → ◌≡◌ {A = Element} (record { name = l; class = c; body = a }) (record { name = m; class = d; body = b })
same_element l m c d a b e g h = cc

pub same_class : {c d e : NameClass} → IsSimpleClassOf c d → IsSimpleClassOf c e → d ≡ e
same_class f g = is_only_simple_class _ _ f ∙ sym (is_only_simple_class _ _ g)

pub same_form : {t v a b : Tree Leaf} → t ≡ v → IsSimpleFormOf t a → IsSimpleFormOf v b → a ≡ b
same_form e f g = is_only_simple_form _ _ f ∙ ap (λ t. as_tree (simple_of t)) e ∙ sym (is_only_simple_form _ _ g)

-- a definition has one tree
pub one_of_definition : (s : Schema) (d : Definition) {t v : Tree Leaf} → IsTreeOf s d t → IsTreeOf s d v → t ≡ v
one_of_definition s d {t} {v} f g = one_tree s f.2 (subst (λ a. Unfolds s d.place a v) (one_value g.1 f.1) g.2)

-- an element of a schema in simple form
abbrev element_form : (Leaf → Simple Leaf) → Leaf → Element
element_form simples l = record { name = l; class = nested l.class; body = as_tree (simples l) }

module _ (s : Schema) (keeps : KeepsExpansion s) (ls : List Leaf) (start : Simple Leaf) (simples : Leaf → Simple Leaf) (g : Grammar)
    (n : IsNumbering s ls start simples g) (is_start : (t : Tree Leaf) → IsTreeOf s (main_start s) t → start ≡ simple_of t) (bodies : AreBodies s simples) where
  abbrev pub form : SimpleForm
  form = record { start = as_tree start; elements = map (element_form simples) ls }

  -- a leaf of the tree that a numbered tree represents is listed
  leaf_listed : (u : Simple ℕ) (a : Tree Leaf) → AreLeavesBelow (length ls) (as_tree u) → a ≡ as_tree (simple_renamed (element_at ls) u) → (l : Leaf)
      → LeafIn l a → Contains ls l
  leaf_listed u a below e l i =
      let o = origin (element_at ls) u l (subst (λ b. LeafIn l b) e i) in
      subst (Contains ls) o.is (Contains-get_or ls o.name no_element (below o.name o.inside))

  body_listed : (m : Leaf) (t b : Tree Leaf) → Contains ls m → IsBodyOf s m t → IsSimpleFormOf t b → (l : Leaf) → LeafIn l b → Contains ls l
  body_listed m t b c d f l i =
      let x = found g.elements c.0 (omega (arith, c.1, n.count)) in
      let at : element_at ls c.0 ≡ m = get_or_default ls c.0 no_element m c.1 ∙ c.2 in
      let listed = n.each c.0 x.0 x.1 in
      let r = All-contains (IsReachedBySimpleForms s) ls m n.reached c in
      let e : b ≡ as_tree (simple_renamed (element_at ls) x.0.1) = is_only_simple_form t b f
      ∙ ap as_tree (sym (listed.body ∙ ap simples at ∙ bodies m r t d)) in
      leaf_listed x.0.1 b listed.below e l i

  -- what is reached is listed
  pub all_listed : {l : Leaf} → IsReachedBySimpleForms s l → Contains ls l
  all_listed (from_simple_start {t} {b} {l} d f i) = leaf_listed g.start b n.below (is_only_simple_form t b f ∙ ap as_tree (sym (n.start ∙ is_start t d))) l i
  all_listed (from_simple_body {m} {l} {t} {b} r d f i) = body_listed m t b (all_listed r) d f l i

  body_tree : (l : Leaf) → IsReachedBySimpleForms s l → (t : Tree Leaf) × IsBodyOf s l t
  body_tree l r = keeps.bodies l (simply_is_reached s r)

  body_form : (l : Leaf) (r : IsReachedBySimpleForms s l) → IsSimpleFormOf (body_tree l r).0 (as_tree (simples l))
  body_form l r =
      let t = body_tree l r in
      subst (λ u. IsSimpleFormOf t.0 (as_tree u)) (sym (bodies l r t.0 t.1)) (has_simple_form t.0)

  pub is_form : IsSimpleFormOfSchema s form
  is_form = record {
    tree = keeps.start.0;
    is_tree = keeps.start.1;
    start = subst (λ u. IsSimpleFormOf keeps.start.0 (as_tree u)) (sym (is_start keeps.start.0 keeps.start.1)) (has_simple_form keeps.start.0);
    elements = All-map (IsElementOf s) (element_form simples) ls
        (All-weaker (IsReachedBySimpleForms s) (λ l. IsElementOf s (element_form simples l)) (λ l r. record {
          reached = r;
          class = has_simple_class l.class;
          tree = (body_tree l r).0;
          is_tree = (body_tree l r).1;
          body = body_form l r;
        }) ls n.reached);
    reached = λ l r. (element_form simples l, contains_mapped (element_form simples) ls l (all_listed r), refl);
  }

  number_of : All (λ l. (k : ℕ) × (k < length g.elements) × (element_at ls k ≡ l)) ls
  number_of k l inside = (k, omega (arith, n.count, inside), get_or_default ls k no_element l inside)

  body_is : (k : ℕ) (c : NameClass) (u : Simple ℕ) → slice_get g.elements k ≡ Some (c, u) →
      Contains form.elements (record { name = element_at ls k; class = c; body = renamed (element_at ls) (as_tree u) }) × AreLeavesBelow
      (length g.elements) (as_tree u)
  body_is k c u there =
      let listed = n.each k (c, u) there in
      let l = element_at ls k in
      let inside : k < length ls = omega (arith, slice_get_within g.elements k (c, u) there, n.count) in
      let tree : as_tree (simples l) ≡ renamed (element_at ls) (as_tree u) = ap as_tree (sym listed.body) ∙ as_tree_renamed (element_at ls) u in
      let e = same_element l l (nested l.class) c (as_tree (simples l)) (renamed (element_at ls) (as_tree u)) refl (sym listed.class) tree in (
        subst (Contains form.elements) e (contains_mapped (element_form simples) ls l (Contains-get_or ls k no_element inside)),
        λ j i. omega (arith, n.count, listed.below j i),
      )

  pub is_numbered : IsSameUpToNumbering g form
  is_numbered = record {
    element = element_at ls;
    one_to_one = λ j k jn kn e. n.distinct j k (omega (arith, n.count)) (omega (arith, n.count)) e;
    all = All-map (λ e. (k : ℕ) × (k < length g.elements) × (element_at ls k ≡ e.name)) (element_form simples) ls number_of;
    start = ap as_tree (sym n.start) ∙ as_tree_renamed (element_at ls) g.start;
    start_below = λ k i. omega (arith, n.count, n.below k i);
    bodies = body_is;
  }

  pub is_simple_grammar : IsSimpleGrammarOf s g
  is_simple_grammar = (form, is_form, is_numbered)

-- if one simple form of the schema is the grammar, each is
pub only_simple_grammar : (s : Schema) (g : Grammar) → IsSimpleGrammarOf s g → IsOnlySimpleGrammarOf s g
only_simple_grammar s g one other is = numbered one.0 one.1 one.2 where
  numbered : (form : SimpleForm) → IsSimpleFormOfSchema s form → IsSameUpToNumbering g form → IsSameUpToNumbering g other
  numbered form has same =
      let starts : form.start ≡ other.start = same_form (one_of_definition s (main_start s) has.is_tree is.is_tree) has.start is.start in record {
        element = same.element;
        one_to_one = same.one_to_one;
        all = λ k e inside.
            let x = slice_index_or other.elements k e in
            let r = has.reached x.name (is.elements k e inside).reached in
            let m = All-contains (λ y. (j : ℕ) × (j < length g.elements) × (same.element j ≡ y.name)) form.elements r.0 same.all r.1 in
            (m.0, m.1, m.2 ∙ r.2);
        start = sym starts ∙ same.start;
        start_below = same.start_below;
        bodies = λ k c u there.
            let b = same.bodies k c u there in
            let l = same.element k in
            let content = renamed same.element (as_tree u) in
            let t = All-contains (IsElementOf s) form.elements (record { name = l; class = c; body = content }) has.elements b.0 in
            let r = is.reached l t.reached in
            let v = All-contains (IsElementOf s) other.elements r.0 is.elements r.1 in
            let class : r.0.class ≡ c = same_class (subst (λ m. IsSimpleClassOf m.class r.0.class) r.2 v.class) t.class in
            let same_body : r.0.body ≡ content = same_form (one_tree s (subst (λ m. IsBodyOf s m v.tree) r.2 v.is_tree) t.is_tree) v.body t.body in
            (subst (Contains other.elements) (same_element r.0.name l r.0.class c r.0.body content r.2 class same_body) r.1, b.1);
      }
