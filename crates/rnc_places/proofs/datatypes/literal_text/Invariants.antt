use Rattle.std.proofs.Common.{◌≡◌, ◌++◌, map, drop, string_bytes}
use Rattle.rnc_model.specs.grammar.SyntaxTrees.{joined_text}
use Rattle.rnc_syntax.specs.views.SyntaxView as syntax
use Rattle.rnc_places.proofs.datatypes.literal_text.Given as goal

abbrev pub invariant-loop-segment : goal.invariant-loop-segment
invariant-loop-segment l = syntax.text_of l.literal ≡ string_bytes l.text ++ joined_text (map (λ s. s.now) (drop l.segment-index l.literal.segments.items))
