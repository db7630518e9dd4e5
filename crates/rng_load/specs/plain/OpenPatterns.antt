-- What is read of a pattern, when the patterns in it that are open are finished.
use Rattle.std.specs.Prelude.{ℕ, List, [], ◌∷◌, ◌++◌, drop, Option}
use Rattle.rng_model.specs.declared.schema_pattern.SchemaRow.{SchemaRow}
use Rattle.rng_model.specs.schema.Patterns.{Pattern}
use Rattle.rng_model.specs.views.SchemaView.{with_row}
use Rattle.rnc_model.specs.grammar.Syntax as tree
use Rattle.rnc_model.specs.grammar.Syntax.{applied, patterns_of}
use Rattle.rnc_model.specs.declarations.FileTree.{FileTree}
use Rattle.rnc_model.specs.loading.Places.{TreePath, Nested}
use Rattle.rng_load.specs.plain.PlainReading.{read_all_at}

-- a pattern whose children are not all read: its row, where its children are read, those that are left, and the number
-- of the first of them
pub record Open : Type 0 where
  pub row : SchemaRow
  pub levels : ℕ
  pub uri : List ℕ
  pub number : ℕ
  pub left : List (tree.PatternAt applied)

-- the trees of the files by name
abbrev pub Files : Type 0
Files = List ℕ → Option FileTree

-- patterns in order, and the grammars that are nested in them
abbrev pub Made : Type 0
Made = List Pattern × List Nested

-- one more pattern is read
abbrev pub with_read : Made → Pattern × List Nested → Made
with_read s r = (s.0 ++ r.0 ∷ [], s.1 ++ r.1)

module _ (files : Files) where
  -- the children that are left of the open pattern at this way
  abbrev pub left_at : TreePath → Open → List Pattern × List Nested
  left_at x o = read_all_at files o.levels o.uri x o.number (patterns_of o.left)

  -- What is made when all open patterns are finished, the innermost first, and the way after it. The way is that of a
  -- child of the innermost open pattern.
  unfoldable pub finished : List Open → TreePath → Made → Made × TreePath
  finished [] x s = (s, x)
  finished (o ∷ os) x s =
      let y = drop 1 x in
      let r = left_at y o in
      finished os y (with_row (s.0 ++ r.0) o.row, s.1 ++ r.1)
