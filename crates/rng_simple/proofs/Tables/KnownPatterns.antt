-- If each pattern of a table is used, and the grammar that it represents has only known datatypes, so has the table.
use Rattle.std.proofs.Common.{ℕ, List, subst, get_or, All}
use Rattle.std.proofs.lemmas.List.Elements.{All-from_get_or, All-head, All-tail}
use Rattle.std.proofs.lemmas.Option.{slice_get-get_or}
use Rattle.rng_model.specs.simple.Tree.{Simple}
use Rattle.rng_model.specs.names.Lists.{Among, here, there}
use Rattle.rng_model.specs.restrictions.Restrictions.{IsPart, the_start, a_body}
use Rattle.rng_model.specs.simple.Grammar.{StandsIn, itself, below, of_attribute, of_list, of_except, of_one_or_more, of_left, of_right, Grammar}
use Rattle.rng_model.specs.simple.SimplifiedSchema.{AreAllUsed}
use Rattle.rng_model.specs.simple.Table.{Table, grammar_of, tree_at, tree_over}
use Rattle.rng_model.specs.simple.TableRules.{Falls, IsDatatypeKnown}
use Rattle.rng_model.specs.declared.simple.PatternId.{PatternId}
use Rattle.rng_model.specs.declared.simple.Simple as declared
use Rattle.rng_model.specs.declared.simple.Simple.TheVariants as simple
use Rattle.rng_model.proofs.Table.{tree_at-over_children}
use Rattle.rng_model.specs.declared.type_set.TypeSet.{TypeSet}
use Rattle.rng_simple.specs.plain.KnownDatatypes.{AreDatatypesKnown, AreGrammarDatatypesKnown}

all_among : {A : Type 0} (P : A → Type 0) {x : A} {xs : List A} → Among x xs → All P xs → P x
all_among P (here {xs}) h = All-head P _ xs h
all_among P (there {y} {xs} i) h = all_among P i (All-tail P y xs h)

module _ (types : TypeSet) where
  -- the parts of a tree with known datatypes have known datatypes
  known_inside : {q p : Simple ℕ} → StandsIn q p → AreDatatypesKnown types p → AreDatatypesKnown types q
  known_inside itself h = h
  known_inside (below _ of_attribute i) h = known_inside i h
  known_inside (below _ of_list i) h = known_inside i h
  known_inside (below _ of_except i) h = known_inside i h.1
  known_inside (below _ of_one_or_more i) h = known_inside i h
  known_inside (below _ of_left i) h = known_inside i h.0
  known_inside (below _ of_right i) h = known_inside i h.1

  part_known : {g : Grammar} {p : Simple ℕ} → IsPart g p → AreGrammarDatatypesKnown types g → AreDatatypesKnown types p
  part_known the_start h = h.start
  part_known (a_body i) h = all_among (λ e. AreDatatypesKnown types e.1) i h.bodies

  -- the datatype of a pattern is known if those of its tree are
  pattern_known : (of : PatternId → Simple ℕ) (p : declared.Simple) → AreDatatypesKnown types (tree_over of p) → IsDatatypeKnown types p
  pattern_known of simple.NotAllowed h = tt
  pattern_known of simple.Empty h = tt
  pattern_known of simple.Text h = tt
  pattern_known of (simple.Element e) h = tt
  pattern_known of (simple.Attribute class body) h = tt
  pattern_known of (simple.List body) h = tt
  pattern_known of (simple.Data datatype) h = h
  pattern_known of (simple.DataExcept datatype except) h = h.0
  pattern_known of (simple.Value value) h = h.0
  pattern_known of (simple.OneOrMore body) h = tt
  pattern_known of (simple.Group a b) h = tt
  pattern_known of (simple.Interleave a b) h = tt
  pattern_known of (simple.Choice a b) h = tt

pub patterns_known : (t : Table) → Falls t.patterns → AreAllUsed t → AreGrammarDatatypesKnown t.types (grammar_of t) → All (IsDatatypeKnown t.types) t.patterns
patterns_known t falls used known = All-from_get_or (IsDatatypeKnown t.types) t.patterns simple.NotAllowed (λ i h.
    let p = get_or t.patterns i simple.NotAllowed in
    let id : PatternId = record { 0 = i } in
    let u = used i h in
    let tree = tree_at-over_children t.patterns id p falls (slice_get-get_or t.patterns i simple.NotAllowed h) in
    pattern_known t.types (tree_at t.patterns) p (subst (AreDatatypesKnown t.types) tree (known_inside t.types u.2 (part_known t.types u.1 known))))
