-- Views of patterns that are being read, without their place in memory.
use Rattle.std.specs.Prelude.{◌≡◌, List, [], ◌∷◌, map, reverse, drop, length}
use Rattle.rng_model.specs.names.NameViews.{namespace_bytes}
use Rattle.rng_model.specs.schema.Patterns as pattern
use Rattle.rng_model.specs.views.SchemaView.{patterns_in, row_arity, row_pattern}
use Rattle.rnc_model.specs.grammar.Syntax as tree
use Rattle.rnc_model.specs.grammar.Syntax.{applied}
use Rattle.rnc_model.specs.loading.Places.{TreePath, Nested}
use Rattle.rnc_grammar.specs.views.View.{pattern_of}
use Rattle.rng_load.specs.declared.pattern_rows.Children.{Children}
use Rattle.rng_load.specs.declared.pattern_rows.Children.TheVariants as children
use Rattle.rng_load.specs.declared.pattern_rows.OpenPattern.{OpenPattern}
use Rattle.rng_load.specs.declared.pattern_rows.PatternHead.{PatternHead}
use Rattle.rng_load.specs.declared.pattern_rows.PatternHead.TheVariants as heads
use Rattle.rng_load.specs.declared.pattern_rows.PatternRows.{PatternRows}
use Rattle.rng_load.specs.plain.OpenPatterns.{Files, Made, Open, left_at}
use Rattle.rng_load.specs.views.ReadPatterns.{nested_of}

abbrev pub children_of : Children → List (tree.PatternAt applied)
children_of (children.One p) = pattern_of p.now ∷ []
children_of (children.All ps) = map pattern_of ps.now

abbrev pub open_of : OpenPattern → Open
open_of o = record {
  row = o.row;
  levels = o.scope.levels;
  uri = namespace_bytes o.scope.uri.now;
  number = o.number;
  left = drop o.number (children_of o.children);
}

-- the open patterns, the innermost first
abbrev pub opens : PatternRows → List Open
opens m = reverse (map open_of m.open.items)

-- what is made so far
abbrev pub made_of : PatternRows → Made
made_of m = (patterns_in m.rows.items, map nested_of m.grammars.items)

-- the pattern at this way that begins so, when its children are read
abbrev pub read_head : Files → TreePath → PatternHead → pattern.Pattern × List Nested
read_head files x (heads.Leaf r) = (row_pattern r [], [])
read_head files x (heads.External r) = (pattern.external (row_pattern r []), [])
read_head files x (heads.Open o) = let r = left_at files x (open_of o) in (row_pattern o.row r.0, r.1)

-- the row has as many children as are read
abbrev pub Fits : PatternHead → Type 0
Fits (heads.Leaf r) = row_arity r ≡ 0
Fits (heads.External r) = row_arity r ≡ 0
Fits (heads.Open o) = row_arity o.row ≡ length (open_of o).left
