-- Grammars of a schema that are found one after another: what holds for those that are found already.
use Rattle.std.specs.Prelude.{◌≡◌, ℕ, List, [], ◌++◌, ◌∷◌, Option, Some, map, ◌⊎◌}
use Rattle.rng_model.specs.names.Lists.{Among}
use Rattle.rng_model.specs.schema.Patterns.{Place}
use Rattle.rnc_model.specs.grammar.Syntax as tree
use Rattle.rnc_model.specs.grammar.Syntax.{applied}
use Rattle.rnc_model.specs.declarations.FileTree.{FileTree}
use Rattle.rnc_model.specs.loading.Mentions.{path_limit}
use Rattle.rng_load.specs.views.PendingGrammars.{Pending}
use Rattle.rng_load.specs.views.PlacedGrammars.{PlacedGrammar, PlacedGrammars}
use Rattle.rnc_model.specs.loading.Places.{Gathered, Nested, main_grammar}
use Rattle.rnc_model.specs.loading.LoadedSchema.{HasGrammar}
use Rattle.rng_load.specs.plain.PlainReading.{AreReadable, gather_at}

-- all grammars that are nested in some components, in order
abbrev pub nested_in : List Gathered → List Nested
nested_in [] = []
nested_in (g ∷ gs) = g.nested ++ nested_in gs

-- a grammar is found at this place
abbrev pub IsFound : Place → PlacedGrammars → Type 0
IsFound x gs = Among x (map (λ e. e.0) gs)

-- a grammar is found at this place, or left
abbrev pub IsKnown : PlacedGrammars → List Place → Place → Type 0
IsKnown gs left x = IsFound x gs ⊎ Among x left

-- a grammar is put at a place
pub record IsPut (old new : PlacedGrammars) (x : Place) (g : PlacedGrammar) : Type 0 where
  pub kept : (y : Place) → IsFound y old → IsFound y new
  pub there : IsFound x new
  pub either : (e : Place × PlacedGrammar) → Among e new → Among e old ⊎ (e ≡ (x, g))

-- a grammar of these components, and the place of the grammar around it
abbrev pub grammar_with : Option Place → List Gathered → PlacedGrammar
grammar_with o all = record { components = map (λ g. g.component) all; outer = o }

-- a grammar that is nested in the one at this place
abbrev pub pending_in : Place → Nested → Pending
pending_in x n = record { outer = x; nested = n }

-- what is left once the grammar at this place is put: those that are nested in it, the first one last
abbrev pub left_by : Place → List Nested → List Pending
left_by x [] = []
left_by x (n ∷ ns) = left_by x ns ++ pending_in x n ∷ []

-- the places of those that are left
abbrev pub places_left : List Pending → List Place
places_left left = map (λ p. p.nested.place) left

module _ (files : List ℕ → Option FileTree) where
  -- the components of the grammar at this place, in a file that inherits this namespace
  abbrev pub gathered_at : List ℕ → Place → tree.ComponentsAt applied → List Gathered
  gathered_at u x cs = gather_at files path_limit u x 0 cs

  module _ (main : FileTree) where
    -- every mention can be followed
    abbrev pub CanBeRead : Type 0
    CanBeRead = AreReadable files path_limit (main_grammar main)

    -- this is the grammar at the place
    pub record IsGrammarAt (x : Place) (g : PlacedGrammar) : Type 0 where
      pub uri : List ℕ
      pub components : tree.ComponentsAt applied
      pub there : HasGrammar files main x g.outer uri components
      pub are : g.components ≡ map (λ c. c.component) (gathered_at uri x components)

    -- the place has a grammar with these components, and `o` is the place of the grammar around it
    pub record HasGathered (x : Place) (o : Option Place) (all : List Gathered) : Type 0 where
      pub uri : List ℕ
      pub components : tree.ComponentsAt applied
      pub there : HasGrammar files main x o uri components
      pub are : all ≡ gathered_at uri x components

    -- all that are left are grammars of the files
    abbrev pub AreLeft : List Pending → Type 0
    AreLeft left = (p : Pending) → Among p left → HasGrammar files main p.nested.place (Some p.outer) p.nested.uri p.nested.components

    -- These grammars are found, and those at some places are left. All are right. Of the main grammar, and of each that is nested in one that is found,
    -- it is found, or left.
    pub record AreFound (gs : PlacedGrammars) (left : List Place) : Type 0 where
      pub main_known : IsKnown gs left []
      pub nested_known : (x : Place) → IsFound x gs → (o : Option Place) (u : List ℕ) (cs : tree.ComponentsAt applied) → HasGrammar files main x o u cs
          → (n : Nested) → Among n (nested_in (gathered_at u x cs)) → IsKnown gs left n.place
      pub right : (e : Place × PlacedGrammar) → Among e gs → IsGrammarAt e.0 e.1
