-- The tree of a schema file with its declarations applied, without its place in memory.
use Rattle.std.specs.Prelude.{Option, Some, None}
use Rattle.rnc_model.specs.grammar.Syntax.{applied, PatternAt, grammar, ComponentsAt}

-- a file: one pattern, or the components of a grammar
pub data FileTree : Type 0 where
  pattern_file : PatternAt applied → FileTree
  grammar_file : ComponentsAt applied → FileTree

-- the components of the grammar that the pattern is
abbrev pub whole_grammar : PatternAt applied → Option (ComponentsAt applied)
whole_grammar (grammar cs) = Some cs
whole_grammar _ = None

-- the components of the grammar that a file is, also where its whole pattern is `grammar { .. }`
abbrev pub grammar_components : FileTree → Option (ComponentsAt applied)
grammar_components (grammar_file cs) = Some cs
grammar_components (pattern_file p) = whole_grammar p
