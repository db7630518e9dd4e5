-- The simple form of the schema of the lines is the grammar that was printed.
use Rattle.std.proofs.Common.{◌≡◌, ◌∙◌, refl, sym, ap, subst, ℕ, suc, ◌+◌, ◌<◌, ◌^◌, Bool, true, false, cond, List, [], ◌∷◌, length}
use Rattle.std.proofs.Common.{arith}
use Rattle.std.specs.Prelude.{not}
use Rattle.std.specs.List.{slice_index_or}
use Rattle.std.proofs.lemmas.List.Elements.{All-contains}
use Rattle.rng_model.specs.names.Lists.{Among}
use Rattle.rng_model.specs.names.Names.{NameClass}
use Rattle.rng_model.specs.simple.Simplification.{ClassStep, IsSimpleClassOf, RuleGroup, Step, IsSimpleFormOf}
use Rattle.rng_model.specs.simple.Tree.{Tree, as_tree}
use Rattle.rng_model.specs.simple.Tree.{Simple, s_not_allowed, s_empty, s_text, s_leaf, s_attribute, s_list, s_data, s_data_except, s_value, s_one_or_more}
use Rattle.rng_model.specs.simple.Tree.{s_joined}
use Rattle.rng_model.specs.simple.Grammar.{Grammar}
use Rattle.rng_model.specs.simple.Leaves.{LeafIn, renamed, AreLeavesBelow}
use Rattle.rng_model.specs.simple.Leaves as at
use Rattle.rng_model.specs.schema.Patterns.{Position}
use Rattle.rng_model.specs.schema.Schema.{Schema, main_start}
use Rattle.rng_model.specs.simple.SchemaForm.{SimpleForm, IsElementOf, IsSimpleFormOfSchema, IsSameUpToNumbering}
use Rattle.rng_model.specs.schema.Unfolding.{IsReachedBySimpleForms, from_simple_start, from_simple_body, Leaf, IsTreeOf, IsBodyOf}
use Rattle.rng_model.proofs.Unfolding.{one_tree}
use Rattle.rncv_model.specs.printed.Items.{place_in, PrintedItem, element, pattern, same_item, element_at, IsItemsOf}
use Rattle.rnc_print.proofs.NamedElements.{listed as listed_row}
use Rattle.rnc_print.proofs.SameTests.{item_exact}
use Rattle.rng_simple.proofs.Trees.SimpleClass.{has_simple_class, class_unchanged}
use Rattle.rng_simple.specs.plain.Renamed.{simple_renamed}
use Rattle.rng_simple.specs.plain.SimpleOf.{simple_of}
use Rattle.rng_simple.proofs.Trees.NoStep.{unchanged}
use Rattle.rng_simple.proofs.Grammars.NumberedSchema.{same_form, one_of_definition}
use Rattle.rng_simple.proofs.Leaves.Renamed.{as_tree_renamed, Origin, origin}
use Rattle.rng_simple.proofs.Leaves.RenamedTwice.{renamed_twice, renamed_itself}
use Rattle.rng_simple.proofs.Trees.SimpleForms.{has_simple_form}
use Rattle.rnc_print_laws.specs.plain.LinesSchema.{flattened, IsSchemaOfLines}
use Rattle.rng_simple.proofs.Grammars.SimpleFormParts.{leaf_of}
use Rattle.rnc_print_laws.proofs.SimpleForms.FlattenedClasses.{nested_flattened, simple_flattened}
use Rattle.rnc_print_laws.proofs.SimpleForms.GoodGrammars.{IsAttributeClass, IsGoodData, IsGoodValue, IsGoodTree, IsGoodGrammar, IsLastSimple}
use Rattle.rnc_print_laws.proofs.Lines.LinesFound.{in_rest}
use Rattle.rnc_print_laws.proofs.SimpleForms.LineTrees.{leaf_at, placed, line_tree_of, leaf_among, start_tree_is, body_tree_is}
use Rattle.rnc_print_laws.proofs.Lines.ListedLines.{start_among, line_among}
use Rattle.rnc_print_laws.proofs.SimpleForms.RenamedSteps.{step_renamed}

-- ---- trees with other names of leaves

leaf_renamed : {K L : Type 0} (f : K → L) (k : K) (a : Simple K) → LeafIn k (as_tree a) → LeafIn (f k) (as_tree (simple_renamed f a))
leaf_renamed f k s_not_allowed i = elim i [ ]
leaf_renamed f k s_empty i = elim i [ ]
leaf_renamed f k s_text i = elim i [ ]
leaf_renamed f k (s_leaf l) at.here = at.here
leaf_renamed f k (s_attribute c a) (at.of_attribute i) = at.of_attribute (leaf_renamed f k a i)
leaf_renamed f k (s_list a) (at.of_list i) = at.of_list (leaf_renamed f k a i)
leaf_renamed f k (s_data d) i = elim i [ ]
leaf_renamed f k (s_data_except d a) (at.of_except i) = at.of_except (leaf_renamed f k a i)
leaf_renamed f k (s_value d v) i = elim i [ ]
leaf_renamed f k (s_one_or_more a) (at.of_one_or_more i) = at.of_one_or_more (leaf_renamed f k a i)
leaf_renamed f k (s_joined m a b) (at.of_first i) = at.of_first (leaf_renamed f k a i)
leaf_renamed f k (s_joined m a b) (at.of_second i) = at.of_second (leaf_renamed f k b i)
leaf_renamed f k (s_joined m a b) (at.of_others i) = elim i [ ]

pub below_of : (n : ℕ) (a : Simple ℕ) → IsGoodTree n a → AreLeavesBelow n (as_tree a)
below_of n a h k i = leaf_of IsAttributeClass IsGoodData IsGoodValue (λ k. k < n) i h

-- ---- the number of its line determines an element

abbrev pub number_of : PrintedItem → ℕ
number_of (element k) = k
number_of (pattern a) = 0

abbrev pub first_of : Position → ℕ
first_of [] = 0
first_of (n ∷ ns) = n

abbrev pub number_at : List PrintedItem → Leaf → ℕ
number_at items l = number_of (slice_index_or (element 0 ∷ items) (first_of l.position) (element 0))

next_at : (i : PrintedItem) (items : List PrintedItem) (p : ℕ) → slice_index_or (i ∷ items) (1 + p) (element 0) ≡ slice_index_or items p (element 0)
next_at i items p = let e : 1 + p ≡ suc p = omega arith in ap (λ (m : ℕ). slice_index_or (i ∷ items) m (element 0)) e

at_place : (items : List PrintedItem) (i : PrintedItem) → Among i items → slice_index_or items (place_in same_item items i) (element 0) ≡ i
at_place [] i a = elim a [ ]
at_place (x ∷ items) i a = by_test (λ b. at_place items i b) (same_item i x) refl a
  where
    by_test : (Among i items → slice_index_or items (place_in same_item items i) (element 0) ≡ i) → (b : Bool) → same_item i x ≡ b → Among i (x ∷ items)
        → slice_index_or (x ∷ items) (place_in same_item (x ∷ items) i) (element 0) ≡ i
    by_test again true e a =
        ap (λ (c : Bool). slice_index_or (x ∷ items) (cond (not c) (1 + place_in same_item items i) 0) (element 0)) e ∙ sym (item_exact i x e)
    by_test again false e a =
        ap (λ (c : Bool). slice_index_or (x ∷ items) (cond (not c) (1 + place_in same_item items i) 0) (element 0)) e
        ∙ next_at x items (place_in same_item items i)
        ∙ again (in_rest i x items e a)

module _ (g : Grammar) (items : List PrintedItem) where
  pub number_back : (k : ℕ) → Among (element k) items → number_at items (leaf_at g items k) ≡ k
  number_back k a = ap number_of (next_at (element 0) items (place_in same_item items (element k)) ∙ at_place items (element k) a)

  module _ (numbered : IsItemsOf g items) where
    placed_back : (a : Simple ℕ) → ((k : ℕ) → LeafIn k (as_tree a) → Among (element k) items) → simple_renamed (number_at items) (placed g items a) ≡ a
    placed_back a h =
        renamed_twice (number_at items) (leaf_at g items) a ∙ renamed_itself (λ k. number_at items (leaf_at g items k)) a (λ k i. number_back k (h k i))

    -- no rule of simplification applies in the tree with its elements where their lines put them
    pub placed_last : (a : Simple ℕ) → IsLastSimple a → ((k : ℕ) → LeafIn k (as_tree a) → Among (element k) items) → (x : RuleGroup) (b : Tree Leaf)
        → Step x (as_tree (placed g items a)) b → ⊥
    placed_last a last h x b st =
        let back : renamed (number_at items) (as_tree (placed g items a)) ≡ as_tree a =
        sym (as_tree_renamed (number_at items) (placed g items a)) ∙ ap as_tree (placed_back a h) in
        last x (renamed (number_at items) b) (subst (λ c. Step x c (renamed (number_at items) b)) back (step_renamed (number_at items) st))

    pub placed_is_form : (a : Simple ℕ) → IsLastSimple a → ((k : ℕ) → LeafIn k (as_tree a) → Among (element k) items)
        → IsSimpleFormOf (line_tree_of g items a) (as_tree (placed g items a))
    placed_is_form a last h =
        let e : as_tree (simple_of (line_tree_of g items a)) ≡ as_tree (placed g items a) =
        ap as_tree (simple_flattened (placed g items a)) ∙ unchanged (as_tree (placed g items a)) (placed_last a last h) in
        subst (IsSimpleFormOf (line_tree_of g items a)) e (has_simple_form (line_tree_of g items a))

pub class_is_form : (c : NameClass) → ((d : NameClass) → ClassStep c d → ⊥) → IsSimpleClassOf (flattened c) c
class_is_form c last = subst (IsSimpleClassOf (flattened c)) (nested_flattened c ∙ class_unchanged c last) (has_simple_class (flattened c))

-- ---- what is reached

module _ (s r : Schema) (g : Grammar) (items : List PrintedItem) (good : IsGoodGrammar g) (numbered : IsItemsOf g items) (few : length items < 2 ^ 64)
    (lines : IsSchemaOfLines g items r) (f : SimpleForm) (is : IsSimpleFormOfSchema s f) (same : IsSameUpToNumbering g f) where
  abbrev n : ℕ
  n = length g.elements

  pub start_leaf : (k : ℕ) → LeafIn k (as_tree g.start) → Among (element k) items
  start_leaf k i = leaf_among g items numbered g.start k (start_among g items numbered) i

  pub body_leaf : (m : ℕ) → Among (element m) items → (k : ℕ) → LeafIn k (as_tree (element_at g m).1) → Among (element k) items
  body_leaf m a k i = leaf_among g items numbered (element_at g m).1 k (line_among g items numbered (element m) a) i

  pub start_is_tree : IsTreeOf r (main_start r) (line_tree_of g items g.start)
  start_is_tree = start_tree_is g items numbered few r lines n good.start.good

  pub start_is_form : IsSimpleFormOf (line_tree_of g items g.start) (as_tree (placed g items g.start))
  start_is_form = placed_is_form g items numbered g.start good.start.last start_leaf

  pub body_is_tree : (k : ℕ) → k < n → Among (element k) items → IsBodyOf r (leaf_at g items k) (line_tree_of g items (element_at g k).1)
  body_is_tree k l a = body_tree_is g items numbered few r lines n k (good.elements k l).body.good a

  pub body_is_form : (k : ℕ) → k < n → Among (element k) items
      → IsSimpleFormOf (line_tree_of g items (element_at g k).1) (as_tree (placed g items (element_at g k).1))
  body_is_form k l a = placed_is_form g items numbered (element_at g k).1 (good.elements k l).body.last (body_leaf k a)

  -- The first schema reaches an element of the grammar. It has a line, and the schema of the lines reaches it.
  record IsListed (l : Leaf) : Type 0 where
    pub number : ℕ
    pub below : number < n
    pub is_named : same.element number ≡ l
    pub among : Among (element number) items
    pub reached : IsReachedBySimpleForms r (leaf_at g items number)

  row_is : (k : ℕ) → k < n
      → IsElementOf s (record { name = same.element k; class = (element_at g k).0; body = renamed same.element (as_tree (element_at g k).1) })
  row_is k l = All-contains (IsElementOf s) f.elements _ is.elements (same.bodies k (element_at g k).0 (element_at g k).1 (listed_row g k l)).0

  listed : {l : Leaf} → IsReachedBySimpleForms s l → IsListed l
  listed (from_simple_start {t} {b} {l} tree form i) =
      let e : b ≡ as_tree (simple_renamed same.element g.start) =
      same_form (one_of_definition s (main_start s) tree is.is_tree) form is.start ∙ same.start ∙ sym (as_tree_renamed same.element g.start) in
      let o = origin same.element g.start l (subst (LeafIn l) e i) in
      record {
        number = o.name;
        below = same.start_below o.name o.inside;
        is_named = o.is;
        among = start_leaf o.name o.inside;
        reached = from_simple_start start_is_tree start_is_form (leaf_renamed (leaf_at g items) o.name g.start o.inside);
      }
  listed (from_simple_body {m} {l} {t} {b} reached tree form i) =
      let x = listed reached in
      let a = (element_at g x.number).1 in
      let row = row_is x.number x.below in
      let e : b ≡ as_tree (simple_renamed same.element a) =
      same_form (one_tree s tree (subst (λ y. IsBodyOf s y row.tree) x.is_named row.is_tree)) form row.body ∙ sym (as_tree_renamed same.element a) in
      let o = origin same.element a l (subst (LeafIn l) e i) in
      record {
        number = o.name;
        below = below_of n a (good.elements x.number x.below).body.good o.name o.inside;
        is_named = o.is;
        among = body_leaf x.number x.among o.name o.inside;
        reached = from_simple_body x.reached (body_is_tree x.number x.below x.among) (body_is_form x.number x.below x.among)
            (leaf_renamed (leaf_at g items) o.name a o.inside);
      }

  -- so each element of the grammar has one
  pub record HasLine (k : ℕ) : Type 0 where
    pub among : Among (element k) items
    pub reached : IsReachedBySimpleForms r (leaf_at g items k)

  pub has_line : (k : ℕ) → k < n → HasLine k
  has_line k l =
      let x = listed (row_is k l).reached in
      let e : x.number ≡ k = same.one_to_one x.number k x.below l x.is_named in
      subst HasLine e (record { among = x.among; reached = x.reached })

  -- what the schema of the lines reaches is an element of the grammar
  pub record IsLine (l : Leaf) : Type 0 where
    pub number : ℕ
    pub below : number < n
    pub is_placed : leaf_at g items number ≡ l

  line_of : (a : Simple ℕ) → IsGoodTree n a → (l : Leaf) → Origin (leaf_at g items) a l → IsLine l
  line_of a h l o = record { number = o.name; below = below_of n a h o.name o.inside; is_placed = o.is }

  pub is_line : {l : Leaf} → IsReachedBySimpleForms r l → IsLine l
  is_line (from_simple_start {t} {b} {l} tree form i) =
      let e : b ≡ as_tree (placed g items g.start) = same_form (one_of_definition r (main_start r) tree start_is_tree) form start_is_form in
      line_of g.start good.start.good l (origin (leaf_at g items) g.start l (subst (LeafIn l) e i))
  is_line (from_simple_body {m} {l} {t} {b} reached tree form i) =
      let x = is_line reached in
      let a = (element_at g x.number).1 in
      let h = (has_line x.number x.below).among in
      let e : b ≡ as_tree (placed g items a) =
      same_form (one_tree r tree (subst (λ y. IsBodyOf r y (line_tree_of g items a)) x.is_placed (body_is_tree x.number x.below h))) form
      (body_is_form x.number x.below h) in
      line_of a (good.elements x.number x.below).body.good l (origin (leaf_at g items) a l (subst (LeafIn l) e i))
