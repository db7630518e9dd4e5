-- The schema of the lines breaks no clause.
use Rattle.std.proofs.Common.{◌≡◌, ◌∙◌, sym, ap, subst, ℕ, ◌<◌, ◌≤◌, ◌^◌, List, length, arith}
use Rattle.rng_model.specs.names.Lists.{Among}
use Rattle.rng_model.specs.simple.Simplification.{IsSimpleClassOf, rewriting, IsRewritten, no_step}
use Rattle.rng_model.specs.simple.Tree.{Tree, Simple, as_tree}
use Rattle.rng_model.specs.simple.Grammar.{Grammar}
use Rattle.rng_model.specs.simple.Leaves.{depth, class_depth, depth_limit, LeafIn}
use Rattle.rng_model.specs.schema.Unfolding.{IsReachedByTrees, IsReachedTree, from_start, from_element, of_start, of_body, Leaf, IsTreeOf, IsBodyOf}
use Rattle.rng_model.specs.schema.Schema.{Schema, main_start}
use Rattle.rng_model.specs.schema.SchemaClauses as clause
use Rattle.rng_model.specs.schema.SchemaClauses.{BreaksExpansion, BreaksDepth, BreaksSchemaClause, BreaksNoClause}
use Rattle.rng_model.specs.simple.SchemaForm.{SimpleForm, IsSimpleFormOfSchema, IsSameUpToNumbering, IsSimpleGrammarOf, IsOnlySimpleGrammarOf}
use Rattle.rng_model.proofs.Unfolding.{one_tree}
use Rattle.rncv_model.specs.printed.Items.{PrintedItem, element, element_at, IsItemsOf}
use Rattle.rnc_print.specs.plain.Renumbered.{AreSameUpToNumbering}
use Rattle.rnc_print.proofs.OneForm.{one_form, same_numbering}
use Rattle.rng_simple.specs.plain.InTwos.{in_twos}
use Rattle.rng_simple.proofs.Trees.InTwos.{rewritten_is}
use Rattle.rng_simple.proofs.Grammars.NumberedSchema.{one_of_definition, same_class, only_simple_grammar}
use Rattle.rng_simple.proofs.Leaves.Renamed.{origin}
use Rattle.rng_simple.proofs.Grammars.SameRestrictions.{same_restrictions}
use Rattle.rnc_print_laws.specs.plain.LinesSchema.{IsSchemaOfLines, IsReprinted, IsReprintedAs}
use Rattle.rncv_model.specs.printed.SchemaText.{IsPrintedForm}
use Rattle.rnc_print_laws.proofs.ReadBack.FewItems.{items_few}
use Rattle.rnc_print_laws.proofs.SimpleForms.FlattenedClasses.{leaves_flattened, twos_flattened}
use Rattle.rnc_print_laws.proofs.SimpleForms.GoodGrammars.{IsGoodTree, IsGoodBody, IsGoodGrammar, good_grammar}
use Rattle.rnc_print_laws.proofs.SimpleForms.LineTrees.{leaf_at, placed, line_tree_of}
use Rattle.rnc_print_laws.proofs.SimpleForms.LinesForm.{HasLine, IsLine, placed_last, below_of, class_is_form, start_leaf, body_leaf, start_is_tree}
use Rattle.rnc_print_laws.proofs.SimpleForms.LinesForm.{body_is_tree, has_line}
use Rattle.rnc_print_laws.proofs.SimpleForms.LinesGrammar.{lines_grammar}
use Rattle.rnc_print_laws.proofs.SimpleForms.LinesWritten.{no_name_class, no_datatype, no_combination, has_start, no_ref}
use Rattle.rnc_print_laws.proofs.SimpleForms.SimpleDepths.{renamed_depth}

module _ (s r : Schema) (g : Grammar) (items : List PrintedItem) (good : IsGoodGrammar g) (numbered : IsItemsOf g items) (few : length items < 2 ^ 64)
    (lines : IsSchemaOfLines g items r) (f : SimpleForm) (is : IsSimpleFormOfSchema s f) (same : IsSameUpToNumbering g f) where
  abbrev n : ℕ
  n = length g.elements

  abbrev line : (k : ℕ) → k < n → HasLine s r g items good numbered few lines f is same k
  line k l = has_line s r g items good numbered few lines f is same k l

  abbrev IsOne : Leaf → Type 0
  IsOne = IsLine s r g items good numbered few lines f is same

  start_tree : IsTreeOf r (main_start r) (line_tree_of g items g.start)
  start_tree = start_is_tree s r g items good numbered few lines f is same

  body_tree : (k : ℕ) → k < n → IsBodyOf r (leaf_at g items k) (line_tree_of g items (element_at g k).1)
  body_tree k l = body_is_tree s r g items good numbered few lines f is same k l (line k l).among

  -- ---- what is reached by trees is an element of the grammar

  leaf_line : (a : Simple ℕ) → IsGoodTree n a → (t : Tree Leaf) (l : Leaf) → t ≡ line_tree_of g items a → LeafIn l t → IsOne l
  leaf_line a h t l e i =
      let o = origin (leaf_at g items) a l (leaves_flattened l (placed g items a) (subst (LeafIn l) e i)) in
      record { number = o.name; below = below_of n a h o.name o.inside; is_placed = o.is }

  -- the tree of an element's body
  body_tree_at : (m : Leaf) (x : IsOne m) → IsBodyOf r m (line_tree_of g items (element_at g x.number).1)
  body_tree_at m x = subst (λ y. IsBodyOf r y (line_tree_of g items (element_at g x.number).1)) x.is_placed (body_tree x.number x.below)

  in_lines : {l : Leaf} → IsReachedByTrees r l → IsOne l
  in_lines (from_start {t} {l} tree i) = leaf_line g.start good.start.good t l (one_of_definition r (main_start r) tree start_tree) i
  in_lines (from_element {m} {l} {t} reached tree i) =
      let x = in_lines reached in
      leaf_line (element_at g x.number).1 (good.elements x.number x.below).body.good t l (one_tree r tree (body_tree_at m x)) i

  no_expansion : ¬ (BreaksExpansion r)
  no_expansion (clause.of_start none) = none (line_tree_of g items g.start) start_tree
  no_expansion (clause.of_body {l} reached none) = let x = in_lines reached in none (line_tree_of g items (element_at g x.number).1) (body_tree_at l x)

  -- ---- trees are as deep as those of the grammar

  shallow : (a : Simple ℕ) → IsGoodBody n a → ((k : ℕ) → LeafIn k (as_tree a) → Among (element k) items) → (t : Tree Leaf) (p : Simple Leaf)
      → t ≡ line_tree_of g items a → IsRewritten t (as_tree p) → depth p ≤ depth_limit
  shallow a h leaves t p e rewritten =
      let own = rewritten_is (as_tree (placed g items a)) (placed g items a)
      (record { reached = no_step; last = λ b st. placed_last g items numbered a h.last leaves rewriting b st }) in
      let p_is : p ≡ placed g items a =
      rewritten_is t p rewritten ∙ ap in_twos e ∙ twos_flattened (placed g items a) ∙ sym own in
      let as_deep : depth p ≡ depth a = ap depth p_is ∙ renamed_depth (leaf_at g items) a in
      let limit = h.shallow in
      omega (arith, as_deep, limit)

  not_less : (m d : ℕ) → d ≤ m → m < d → ⊥
  not_less m d h i = omega arith

  shallow_tree : (t : Tree Leaf) (p : Simple Leaf) → IsReachedTree r t → IsRewritten t (as_tree p) → depth p ≤ depth_limit
  shallow_tree t p (of_start tree) rewritten =
      shallow g.start good.start (start_leaf s r g items good numbered few lines f is same) t p (one_of_definition r (main_start r) tree start_tree) rewritten
  shallow_tree t p (of_body {l} reached tree) rewritten =
      let x = in_lines reached in
      shallow (element_at g x.number).1 (good.elements x.number x.below).body
      (body_leaf s r g items good numbered few lines f is same x.number (line x.number x.below).among) t p (one_tree r tree (body_tree_at l x)) rewritten

  no_depth : ¬ (BreaksDepth r)
  no_depth (clause.deep_tree {t} p reached rewritten deep) = not_less depth_limit (depth p) (shallow_tree t p reached rewritten) deep
  no_depth (clause.deep_class {l} {c} reached simple deep) =
      let x = in_lines reached in
      let e = good.elements x.number x.below in
      let own = class_is_form (element_at g x.number).0 e.nested in
      let is_class : c ≡ (element_at g x.number).0 = same_class (subst (λ (y : Leaf). IsSimpleClassOf y.class c) (sym x.is_placed) simple) own in
      let as_deep : class_depth c ≡ class_depth (element_at g x.number).0 = ap class_depth is_class in
      let limit = e.shallow in
      omega (arith, as_deep, limit, deep)

  no_schema_clause : (k : ℕ) → ¬ (BreaksSchemaClause r k)
  no_schema_clause k (clause.in_name_class b) = no_name_class g items good numbered r lines b
  no_schema_clause k (clause.in_datatype b) = no_datatype g items good numbered r lines b
  no_schema_clause k (clause.in_combination b) = no_combination g items good numbered r lines few b
  no_schema_clause k (clause.without_start b) = has_start g items good numbered r lines b
  no_schema_clause k (clause.in_ref b) = no_ref g items good numbered r lines b
  no_schema_clause k (clause.in_expansion b) = no_expansion b
  no_schema_clause k (clause.in_depth b) = no_depth b

  module _ (kept : BreaksNoClause s) where
    pub no_clause : BreaksNoClause r
    no_clause k (clause.in_schema b) = no_schema_clause k b
    no_clause k (clause.in_restriction {g = h} form b) =
        kept k (clause.in_restriction (f, is, same) (same_restrictions r h g form (lines_grammar s r g items good numbered few lines f is same) k b))

-- ---- the laws

module _ (s r : Schema) (g : Grammar) (items : List PrintedItem) (h : IsReprinted s r g items) where
  good : IsGoodGrammar g
  good = good_grammar s h.kept g h.form.0 h.form.1 h.form.2

  pub reprinted_form : IsSimpleGrammarOf r g
  reprinted_form = lines_grammar s r g items good h.numbered h.few h.lines h.form.0 h.form.1 h.form.2

  pub reprinted_only : IsOnlySimpleGrammarOf r g
  reprinted_only = only_simple_grammar r g reprinted_form

  -- each simple grammar of the schema is this one, except for the numbers of its elements
  pub reprinted_numbers : (other : Grammar) → IsSimpleGrammarOf r other → AreSameUpToNumbering g other
  reprinted_numbers other is = same_numbering r g other reprinted_form.0 reprinted_form.1 reprinted_form.2 (only_simple_grammar r other is)

  pub reprinted_kept : BreaksNoClause r
  reprinted_kept = no_clause s r g items good h.numbered h.few h.lines h.form.0 h.form.1 h.form.2 h.kept

module _ (s r : Schema) (text : List ℕ) (h : IsReprintedAs s r text) where
  few_items : length h.printed.is_printed.items < 2 ^ 64
  few_items = let n = (items_few h.printed.grammar text h.printed.is_printed).0 in let few = h.few in omega (arith, n, few)

  pub is_reprinted : IsReprinted s r h.printed.grammar h.printed.is_printed.items
  is_reprinted = record { kept = h.kept; form = h.printed.is_form; numbered = h.printed.is_printed.numbered; few = few_items; lines = h.lines }

  pub reprinted_text : BreaksNoClause r × IsPrintedForm r text
  reprinted_text = (
    reprinted_kept s r h.printed.grammar h.printed.is_printed.items is_reprinted,
    record {
      grammar = h.printed.grammar;
      is_form = reprinted_form s r h.printed.grammar h.printed.is_printed.items is_reprinted;
      only = reprinted_only s r h.printed.grammar h.printed.is_printed.items is_reprinted;
      is_printed = h.printed.is_printed;
    },
  )

-- each text that is printed for the schema is this one
pub same_text_again : (s r : Schema) (text other : List ℕ) → IsReprintedAs s r text → IsPrintedForm r other → other ≡ text
same_text_again s r text other h p = one_form r other text p (reprinted_text s r text h).1
