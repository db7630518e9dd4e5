-- What a sort of the definitions and a list of their depths mean for the schemas of a graph.
use Rattle.std.proofs.Common.{◌≡◌, ◌↔◌, ap, sym, ◌∙◌, subst, ℕ, ◌<◌, List, length, map, All, Contains, Vec, Global, arith}
use Rattle.std.proofs.lemmas.List.{length-map}
use Rattle.rng_model.specs.schema.Schema.{Schema}
use Rattle.rng_model.specs.schema.SchemaClauses.{BreaksExpansion, BreaksDepth}
use Rattle.rng_model.specs.schema.SchemaClauses as clauses
use Rattle.rng_simple.specs.declared.graph.parts.Graph as declared
use Rattle.rng_simple.specs.plain.Expansion.{KeepsExpansion}
use Rattle.rng_simple.specs.views.ExpansionOrder.{IsGraphOfSchema, IsGraphOfSome, IsWholeOrder}
use Rattle.rng_simple.specs.plain.Graph.{Mentions, IsOrderBy, LeadsBy, spot_depth, IsFilledBy, IsDeepBy}
use Rattle.rng_simple.specs.views.GraphView.{graph_of, classes_of}
use Rattle.rng_simple.specs.plain.Mentioned.{mentioned}
use Rattle.rng_simple.specs.plain.Search.{Lists, AreMentionsBelow, IsAnswer}
use Rattle.rng_simple.specs.declared.graph.order.Sorted.{Sorted}
use Rattle.rng_simple.specs.declared.graph.order.Sorted.TheVariants as sorted
use Rattle.rng_simple.proofs.NumberedGraphs.Adjacency.{order_by, leads_by}
use Rattle.rng_simple.proofs.NumberedGraphs.GraphTables.{mentioned_is_there}
use Rattle.rng_simple.proofs.NumberedGraphs.JudgedByNumbers.{loop_breaks_expansion, order_keeps_expansion, deep_breaks_depth}
use Rattle.rng_simple.proofs.NumberedGraphs.Mentioned.{mentions_listed}

pub keeps_breaks_not : {s : Schema} → KeepsExpansion s → BreaksExpansion s → ⊥
keeps_breaks_not k (clauses.of_start none) = none k.start.0 k.start.1
keeps_breaks_not k (clauses.of_body r none) = let t = k.bodies _ r in none t.0 t.1

-- ---- the lists of what bodies mention

module _ (g : declared.Graph) (all : List (List ℕ)) (listed : all ≡ map mentioned (graph_of g).bodies) where
  as_many : length all ≡ length (graph_of g).bodies
  as_many = ap length listed ∙ length-map (graph_of g).bodies mentioned

  of_lists : (j i : ℕ) → Lists all j i → Mentions (graph_of g) j i
  of_lists j i c = (mentions_listed (graph_of g) j i).1 (subst (λ xs. Lists xs j i) listed c)

  to_lists : (j i : ℕ) → Mentions (graph_of g) j i → Lists all j i
  to_lists j i m = subst (λ xs. Lists xs j i) (sym listed) ((mentions_listed (graph_of g) j i).0 m)

  pub mentions_below : IsGraphOfSome g → AreMentionsBelow all
  mentions_below some j i c =
      let is = some.1 in
      omega (arith, mentioned_is_there some.0 is.definitions is.elements (graph_of g) is.is (of_lists j i c), is.is.all_bodies, as_many)

  pub loop_is_broken : (j : ℕ) → j < length all → LeadsBy (Lists all) j j → (s : Schema) → IsGraphOfSchema s g → BreaksExpansion s
  loop_is_broken j h w s is =
      loop_breaks_expansion s is.definitions is.elements (graph_of g) is.is j (omega (arith, h, as_many, is.is.all_bodies))
      (leads_by (Mentions (graph_of g)) (Lists all) of_lists w)

  pub order_is_whole : (js : List ℕ) → IsOrderBy (Lists all) js → All (λ j. j < length all) js → ((j : ℕ) → j < length all → Contains js j)
      → IsWholeOrder (graph_of g) js
  order_is_whole js o h whole = record {
    order = order_by (Lists all) (Mentions (graph_of g)) to_lists o;
    within = subst (λ n. All (λ j. j < n) js) as_many h;
    whole = λ j k. whole j (omega (arith, k, as_many));
  }

  -- the result of the sort
  pub answer_is_whole : (r : Sorted) (js : Vec ℕ Global) → IsAnswer all r → r ≡ sorted.Order js → IsWholeOrder (graph_of g) js.items
  answer_is_whole r js a e = let b = subst (IsAnswer all) e a in order_is_whole js.items b.0 b.1 b.2

  pub answer_is_broken : (r : Sorted) (j : ℕ) → IsAnswer all r → r ≡ sorted.Loop j → (s : Schema) → IsGraphOfSchema s g → BreaksExpansion s
  answer_is_broken r j a e = let b = subst (IsAnswer all) e a in loop_is_broken j b.0 b.1

-- ---- a whole order

module _ (g : declared.Graph) (js : List ℕ) (o : IsWholeOrder (graph_of g) js) (s : Schema) (is : IsGraphOfSchema s g) where
  within_definitions : All (λ j. j < length is.definitions) js
  within_definitions = subst (λ n. All (λ j. j < n) js) is.is.all_bodies o.within

  whole_definitions : (j : ℕ) → j < length is.definitions → Contains js j
  whole_definitions j h = o.whole j (omega (arith, h, is.is.all_bodies))

  pub order_keeps : KeepsExpansion s
  order_keeps = order_keeps_expansion s is.definitions is.elements (graph_of g) is.is o.order within_definitions whole_definitions

  pub depth_breaks : (values : ℕ → ℕ) → IsFilledBy (graph_of g) (spot_depth values) values js → BreaksDepth s ↔ IsDeepBy (classes_of g) (graph_of g) values
  depth_breaks values f =
      deep_breaks_depth s is.definitions is.elements (graph_of g) is.is o.order within_definitions whole_definitions values f (classes_of g) is.classes
