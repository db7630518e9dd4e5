-- The file of the lines, read as a schema, is the schema of the lines.
use Rattle.std.proofs.Common.{◌≡◌, ◌∙◌, refl, sym, ap, subst, ℕ, ◌+◌, List, [], ◌∷◌, map, Option, Some, None}
use Rattle.rng_model.proofs.Options.{none_is_some}
use Rattle.rng_model.specs.names.Lists.{Among, here, there}
use Rattle.rng_model.specs.simple.Tree.{Connector, choice, group, interleave}
use Rattle.rng_model.specs.simple.Tree.{Simple, s_not_allowed, s_empty, s_text, s_leaf, s_attribute, s_list, s_data, s_data_except, s_value, s_one_or_more}
use Rattle.rng_model.specs.simple.Tree.{s_joined}
use Rattle.rng_model.specs.simple.Grammar.{Grammar}
use Rattle.rng_model.specs.schema.Patterns as written
use Rattle.rng_model.specs.schema.Patterns.{Place, Pattern, joined_members, no_patterns}
use Rattle.rng_model.specs.schema.Schema.{Schema, Component}
use Rattle.rncv_model.specs.printed.Items.{PrintedItem, element, pattern, element_at}
use Rattle.rnc_model.specs.grammar.Syntax as tree
use Rattle.rnc_model.specs.grammar.Syntax.{applied, inherited, given}
use Rattle.rnc_model.specs.declarations.FileTree.{FileTree}
use Rattle.rnc_model.specs.loading.LoadedSchema as loaded
use Rattle.rnc_model.specs.loading.Places as p
use Rattle.rnc_model.specs.loading.Places.{TreePath, Nested, Gathered, Reads}
use Rattle.rnc_model.specs.loading.LoadedSchema.{Gathers, HasGrammar, IsSchemaOf}
use Rattle.rng_load.proofs.Places.OneSchema.{one_gathering}
use Rattle.rnc_print_laws.specs.plain.LinesSchema.{reference_pattern, item_pattern, start_line, item_line, lines_components, components_at, schema_of_lines}
use Rattle.rnc_print_laws.specs.plain.LinesSchema.{IsSchemaOfLines}
use Rattle.rnc_print_laws.specs.plain.LinesTree as lines
use Rattle.rnc_print_laws.specs.plain.LinesTree.{lines_tree}
use Rattle.rnc_print_laws.proofs.Lines.ReadClasses.{class_read}

module _ (files : List ℕ → Option FileTree) where
  abbrev IsRead : TreePath → tree.PatternAt applied → Pattern → Type 0
  IsRead x a q = Reads files [] x a q []

  reference_read : (items : List PrintedItem) (a : Simple ℕ) (x : TreePath) → IsRead x (lines.reference_of items a) (reference_pattern items a)
  reference_read items s_not_allowed x = p.not_allowed_is
  reference_read items s_empty x = p.empty_is
  reference_read items s_text x = p.text_is
  reference_read items (s_leaf k) x = p.ref_is
  reference_read items (s_attribute c a) x = p.ref_is
  reference_read items (s_list a) x = p.ref_is
  reference_read items (s_data d) x = p.data_is
  reference_read items (s_data_except d a) x = p.ref_is
  reference_read items (s_value d v) x = p.value_is
  reference_read items (s_one_or_more a) x = p.ref_is
  reference_read items (s_joined k a b) x = p.ref_is

  two_members : (k : Connector) (q r : Pattern) → joined_members k (q ∷ (r ∷ [])) ≡ written.joined k q r no_patterns
  two_members choice q r = refl
  two_members group q r = refl
  two_members interleave q r = refl

  line_read : (items : List PrintedItem) (a : Simple ℕ) (x : TreePath) (g : Grammar) → IsRead x (lines.pattern_of items a) (item_pattern g items (pattern a))
  line_read items s_not_allowed x g = p.not_allowed_is
  line_read items s_empty x g = p.empty_is
  line_read items s_text x g = p.text_is
  line_read items (s_leaf k) x g = p.ref_is
  line_read items (s_attribute c a) x g =
      subst (λ d. IsRead x (lines.pattern_of items (s_attribute c a)) (written.attribute d (reference_pattern items a))) (class_read (given []) refl c)
      (p.attribute_is (reference_read items a (0 ∷ x)))
  line_read items (s_list a) x g = p.list_is (reference_read items a (0 ∷ x))
  line_read items (s_data d) x g = p.data_is
  line_read items (s_data_except d a) x g = p.except_is (reference_read items a (0 ∷ x))
  line_read items (s_value d v) x g = p.value_is
  line_read items (s_one_or_more a) x g = p.one_or_more_is (reference_read items a (0 ∷ x))
  line_read items (s_joined k a b) x g =
      subst (λ q. IsRead x (lines.pattern_of items (s_joined k a b)) q) (two_members k (reference_pattern items a) (reference_pattern items b))
      (p.joined_is (p.more_are (reference_read items a (0 ∷ x)) (p.more_are (reference_read items b ((0 + 1) ∷ x)) p.none_are refl) refl))

  item_read : (g : Grammar) (items : List PrintedItem) (i : PrintedItem) (x : TreePath) → IsRead x (lines.item_pattern g items i) (item_pattern g items i)
  item_read g items (element k) x =
      subst (λ d. IsRead x (lines.item_pattern g items (element k)) (written.element d (reference_pattern items (element_at g k).1)))
      (class_read inherited refl (element_at g k).0) (p.element_is (reference_read items (element_at g k).1 (0 ∷ x)))
  item_read g items (pattern a) x = line_read items a x g

  -- ---- the components of the lines

  abbrev alone : Component → Gathered
  alone c = record { component = c; nested = [] }

  abbrev item_gathered : Grammar → List PrintedItem → PrintedItem → Gathered
  item_gathered g items i = alone (item_line g items i)

  items_gather : (g : Grammar) (items js : List PrintedItem) (x : TreePath) (n : ℕ)
      → Gathers files [] x n (tree.components_of (map (lines.define_of g items) js)) (map (item_gathered g items) js)
  items_gather g items [] x n = loaded.nothing
  items_gather g items (j ∷ js) x n = loaded.a_define (item_read g items j (n ∷ x)) (items_gather g items js x (n + 1))

  module _ (g : Grammar) (items : List PrintedItem) where
    abbrev file_components : tree.ComponentsAt applied
    file_components = p.main_grammar (lines_tree g items)

    abbrev all_gathered : List Gathered
    all_gathered = alone (start_line g items) ∷ map (item_gathered g items) items

    lines_gather : (x : TreePath) → Gathers files [] x 0 file_components all_gathered
    lines_gather x = loaded.a_start (reference_read items g.start (0 ∷ x)) (items_gather g items items x (0 + 1))

    components_gathered : (js : List PrintedItem) → map (λ c. c.component) (map (item_gathered g items) js) ≡ map (item_line g items) js
    components_gathered [] = refl
    components_gathered (j ∷ js) = ap (λ (cs : List Component). item_line g items j ∷ cs) (components_gathered js)

    all_components : map (λ c. c.component) all_gathered ≡ lines_components g items
    all_components = ap (λ (cs : List Component). start_line g items ∷ cs) (components_gathered items)

    none_nested : (c : Gathered) (js : List PrintedItem) (n : Nested) → Among c (map (item_gathered g items) js) → Among n c.nested → ⊥
    none_nested c [] n a b = elim a [ ]
    none_nested c (j ∷ js) n here b = elim b [ ]
    none_nested c (j ∷ js) n (there a) b = none_nested c js n a b

    none_in_lines : (c : Gathered) (n : Nested) → Among c all_gathered → Among n c.nested → ⊥
    none_in_lines c n here b = elim b [ ]
    none_in_lines c n (there a) b = none_nested c items n a b

    -- no grammar is nested in that of the lines
    record IsMain (x : Place) (o : Option Place) (u : List ℕ) (cs : tree.ComponentsAt applied) : Type 0 where
      pub place : x ≡ []
      pub outer : o ≡ None
      pub uri : u ≡ []
      pub components : cs ≡ file_components

    gathered_is : (x : TreePath) (u : List ℕ) (cs : tree.ComponentsAt applied) (gathered : List Gathered) → u ≡ [] → cs ≡ file_components
        → Gathers files u x 0 cs gathered → gathered ≡ all_gathered
    gathered_is x u cs gathered e f d =
        one_gathering files (subst (λ ds. Gathers files [] x 0 ds gathered) f (subst (λ v. Gathers files v x 0 cs gathered) e d)) (lines_gather x)

    is_main : {x : Place} {o : Option Place} {u : List ℕ} {cs : tree.ComponentsAt applied} → HasGrammar files (lines_tree g items) x o u cs → IsMain x o u cs
    is_main (loaded.main_is e) = record { place = refl; outer = refl; uri = refl; components = e }
    is_main (loaded.nested_is {x} {o} {u} {cs} {gathered} {g = c} {n} h d a b) =
        let m = is_main h in
        absurd (none_in_lines c n (subst (Among c) (gathered_is x u cs gathered m.uri m.components d) a) b)

    main_there : HasGrammar files (lines_tree g items) [] None [] file_components
    main_there = loaded.main_is refl

    pub lines_read : (r : Schema) → IsSchemaOf files (lines_tree g items) r → IsSchemaOfLines g items r
    lines_read r is =
        let t = is.there [] None [] file_components main_there in
        record {
          main = is.main_place;
          components = t.2 ∙ ap (λ (cs : List Gathered). Some (map (λ c. c.component) cs)) (gathered_is [] [] file_components t.0 refl refl t.1)
              ∙ ap Some all_components;
          only = λ x cs e. let h = is.only_there x cs e in (is_main h.3).place;
        }

    -- ---- there is one

    pub lines_are_read : IsSchemaOf files (lines_tree g items) (schema_of_lines g items)
    lines_are_read = record {
      main_place = refl;
      there = λ x o u cs h. let m = is_main h in (
        all_gathered,
        subst (λ v. Gathers files v x 0 cs all_gathered) (sym m.uri) (subst (λ ds. Gathers files [] x 0 ds all_gathered) (sym m.components) (lines_gather x)),
        ap (components_at g items) m.place ∙ ap Some (sym all_components),
        sym m.outer,
      );
      only_there = λ x all e. only x all e;
      none_around = λ x e. refl;
    }
      where
        only : (x : Place) (all : List Component) → components_at g items x ≡ Some all → (o : Option Place) × (u : List ℕ) × (cs : tree.ComponentsAt applied)
            × HasGrammar files (lines_tree g items) x o u cs
        only [] all e = (None, [], file_components, main_there)
        only (n ∷ x) all e = none_is_some e

pub lines_schema : (g : Grammar) (items : List PrintedItem) → IsSchemaOfLines g items (schema_of_lines g items)
lines_schema g items = record { main = refl; components = refl; only = λ x cs e. only x cs e }
  where
    only : (x : Place) (cs : List Component) → components_at g items x ≡ Some cs → x ≡ []
    only [] cs e = refl
    only (n ∷ x) cs e = none_is_some e
