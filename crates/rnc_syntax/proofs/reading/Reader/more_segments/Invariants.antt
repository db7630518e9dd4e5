use Rattle.std.proofs.Common.{map, length}
use Rattle.rnc_model.specs.declared.token.Sign.TheVariants.{Tilde}
use Rattle.rnc_syntax.specs.plain.Reading.{lexemes_in}
use Rattle.rnc_syntax.specs.plain.Combinators.{follow, many, segment_at, with_front}
use Rattle.rnc_syntax.proofs.ReadItems.{Goes}
use Rattle.rnc_syntax.proofs.reading.Reader.more_segments.Given as goal

abbrev pub invariant-loop-after : goal.invariant-loop-after
invariant-loop-after l = Goes (follow Tilde) segment_at (map (λ s. s.now) l.segments.items) (lexemes_in l.self.count l.rest)
    (with_front (map (λ s. s.now) l.fn.segments.items) (many (follow Tilde) segment_at (lexemes_in l.self.count l.tokens)))

abbrev pub decreases-loop-after : goal.decreases-loop-after
decreases-loop-after l = length l.rest
