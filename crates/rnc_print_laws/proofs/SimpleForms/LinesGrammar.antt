-- The printed grammar is a simple grammar of the schema of its lines, and the only one up to the numbers of its
-- elements.
use Rattle.std.proofs.Common.{◌≡◌, ◌∙◌, sym, ap, subst, ℕ, ◌<◌, ◌^◌, List, length}
use Rattle.std.specs.Prelude.{Contains}
use Rattle.std.proofs.lemmas.Option.{slice_get_within, get_or_from_slice_get}
use Rattle.rng_model.specs.names.Names.{any_name}
use Rattle.rng_model.specs.simple.Tree.{s_not_allowed, as_tree}
use Rattle.rng_model.specs.simple.Grammar.{Grammar}
use Rattle.rng_model.specs.simple.Leaves.{AreLeavesBelow}
use Rattle.rng_model.specs.schema.Schema.{Schema}
use Rattle.rng_model.specs.simple.SchemaForm.{Element, SimpleForm, IsElementOf, IsSimpleFormOfSchema, IsSameUpToNumbering, IsSimpleGrammarOf}
use Rattle.rng_model.specs.simple.Simplification.{IsSimpleFormOf}
use Rattle.rng_model.specs.schema.Unfolding.{Leaf}
use Rattle.rncv_model.specs.printed.Items.{PrintedItem, element_at, IsItemsOf}
use Rattle.rnc_print.proofs.NamedElements.{Row, as_many, in_rows, named, named_from, row_at}
use Rattle.rng_simple.proofs.Leaves.Renamed.{as_tree_renamed}
use Rattle.rnc_print_laws.specs.plain.LinesSchema.{IsSchemaOfLines}
use Rattle.rnc_print_laws.proofs.SimpleForms.GoodGrammars.{IsGoodGrammar}
use Rattle.rnc_print_laws.proofs.SimpleForms.LineTrees.{leaf_at, placed, line_tree_of}
use Rattle.rnc_print_laws.proofs.SimpleForms.LinesForm.{HasLine, number_at, number_back, below_of, class_is_form}
use Rattle.rnc_print_laws.proofs.SimpleForms.LinesForm.{start_is_tree, start_is_form, body_is_tree, body_is_form, has_line, is_line}

module _ (s r : Schema) (g : Grammar) (items : List PrintedItem) (good : IsGoodGrammar g) (numbered : IsItemsOf g items) (few : length items < 2 ^ 64)
    (lines : IsSchemaOfLines g items r) (f : SimpleForm) (is : IsSimpleFormOfSchema s f) (same : IsSameUpToNumbering g f) where
  abbrev n : ℕ
  n = length g.elements

  abbrev name : ℕ → Leaf
  name = leaf_at g items

  abbrev row : ℕ → Element
  row k = named name k (element_at g k)

  abbrev rows : List Element
  rows = named_from name 0 g.elements

  abbrev form : SimpleForm
  form = record { start = as_tree (placed g items g.start); elements = rows }

  abbrev line : (k : ℕ) → k < n → HasLine s r g items good numbered few lines f is same k
  line k l = has_line s r g items good numbered few lines f is same k l

  row_is : (k : ℕ) → k < n → IsElementOf r (row k)
  row_is k l = record {
    reached = (line k l).reached;
    class = class_is_form (element_at g k).0 (good.elements k l).nested;
    tree = line_tree_of g items (element_at g k).1;
    is_tree = body_is_tree s r g items good numbered few lines f is same k l (line k l).among;
    body = subst (IsSimpleFormOf (line_tree_of g items (element_at g k).1)) (as_tree_renamed name (element_at g k).1)
        (body_is_form s r g items good numbered few lines f is same k l (line k l).among);
  }

  pub is_form : IsSimpleFormOfSchema r form
  is_form = record {
    tree = line_tree_of g items g.start;
    is_tree = start_is_tree s r g items good numbered few lines f is same;
    start = start_is_form s r g items good numbered few lines f is same;
    elements = λ k d l.
        let below : k < n = subst (λ x. k < x) (as_many name 0 g.elements) l in
        subst (IsElementOf r) (sym (row_at name g k d below)) (row_is k below);
    reached = λ l reached.
        let x = is_line s r g items good numbered few lines f is same reached in
        (row x.number, in_rows name g x.number x.below, x.is_placed);
  }

  pub is_numbered : IsSameUpToNumbering g form
  is_numbered = record {
    element = name;
    one_to_one = λ j k jn kn e.
        sym (number_back g items j (line j jn).among) ∙ ap (number_at items) e ∙ number_back g items k (line k kn).among;
    all = λ k d l.
        let below : k < n = subst (λ x. k < x) (as_many name 0 g.elements) l in
        (k, below, sym (ap (λ (e : Element). e.name) (row_at name g k d below)));
    start = as_tree_renamed name g.start;
    start_below = below_of n g.start good.start.good;
    bodies = λ k c u there.
        let l : k < n = slice_get_within g.elements k (c, u) there in
        let e : element_at g k ≡ (c, u) = get_or_from_slice_get g.elements k (c, u) (any_name, s_not_allowed) there in
        subst (λ (x : Row). Contains rows (named name k x) × AreLeavesBelow n (as_tree x.1)) e
        (in_rows name g k l, below_of n (element_at g k).1 (good.elements k l).body.good);
  }

  pub lines_grammar : IsSimpleGrammarOf r g
  lines_grammar = (form, is_form, is_numbered)
