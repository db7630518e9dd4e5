-- What the simplification of a schema has to return.
use Rattle.std.specs.Prelude.{⊤, ◌↔◌, ℕ, ◌<◌, length, ◌≡◌, ◌⊎◌, All}
use Rattle.rng_model.specs.names.Lists.{IsLeast}
use Rattle.rng_model.specs.restrictions.Restrictions.{IsPart}
use Rattle.rng_model.specs.simple.Grammar.{StandsIn, Grammar}
use Rattle.rng_model.specs.schema.Schema.{Schema}
use Rattle.rng_model.specs.schema.SchemaClauses.{BreaksSchemaClause}
use Rattle.rng_model.specs.simple.Table.{Table, grammar_of, tree_at}
use Rattle.rng_model.specs.simple.Tree.{Simple, s_not_allowed}
use Rattle.rng_model.specs.matching.Document.{Item}
use Rattle.rng_model.specs.matching.GrammarMatching.{IsValidBy}
use Rattle.rng_model.specs.matching.SchemaMatching.{IsValidBySchema}
use Rattle.rng_model.specs.datatypes.Texts.{texts_of}
use Rattle.rng_model.specs.datatypes.Datatypes.{text_tests}
use Rattle.rng_model.specs.declared.fault.SchemaFault.{SchemaFault}
use Rattle.rng_model.specs.declared.fault.SchemaFault.TheVariants as faults

-- the least clause that the schema breaks, of S11 to S17; out of memory claims nothing
abbrev pub IsSchemaFault : Schema → SchemaFault → Type 0
IsSchemaFault s (faults.Clause clause) = IsLeast (BreaksSchemaClause s) clause
IsSchemaFault s (faults.File clause name) = ⊥
IsSchemaFault s faults.Memory = ⊤

-- the tables hold no more than the grammar: each pattern is in the start, or in the body of an element
abbrev pub AreAllUsed : Table → Type 0
AreAllUsed t = (i : ℕ) → i < length t.patterns → (part : Simple ℕ) × IsPart (grammar_of t) part × StandsIn (tree_at t.patterns (record { 0 = i })) part

-- a document is valid by the grammar exactly if it is valid by the schema as it is written
abbrev pub AreSameDocuments : Schema → Grammar → Type 0
AreSameDocuments s g = (root : Item) → IsValidBy g (texts_of text_tests) root ↔ IsValidBySchema s root

-- what a start or a body may be: notAllowed as a whole, or a pattern without notAllowed in it (after section 4.20)
abbrev pub IsSimpleBody : {L : Type 0} → Simple L → Type 0
IsSimpleBody s = (s ≡ s_not_allowed) ⊎ (¬ (StandsIn s_not_allowed s))

pub record IsInSimpleSyntax (g : Grammar) : Type 0 where
  pub start : IsSimpleBody g.start
  pub bodies : All (λ e. IsSimpleBody e.1) g.elements
