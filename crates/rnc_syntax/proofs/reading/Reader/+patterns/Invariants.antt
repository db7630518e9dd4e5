use Rattle.std.proofs.Common.{map, [], ◌∷◌, length, ◌+◌, ◌*◌}
use Rattle.rnc_syntax.specs.plain.Reading.{lexemes_in}
use Rattle.rnc_syntax.specs.plain.Combinators.{follow, many, with_front}
use Rattle.rnc_syntax.specs.plain.Productions.{particle_with, component_front, component_with, components_with, inside_at}
use Rattle.rnc_syntax.specs.views.SyntaxView.{pattern_of, component_of, setting_of}
use Rattle.rnc_syntax.proofs.ReadItems.{Goes}
use Rattle.rnc_syntax.proofs.reading.Reader.+patterns.Given as goal

abbrev pub decreases-inner_pattern : goal.decreases-inner_pattern
decreases-inner_pattern l = 20 * l.levels

abbrev pub decreases-braced : goal.decreases-braced
decreases-braced l = 20 * l.levels + 1

abbrev pub decreases-contents : goal.decreases-contents
decreases-contents l = 20 * l.levels + 1

abbrev pub decreases-bare_primary : goal.decreases-bare_primary
decreases-bare_primary l = 20 * l.levels + 4

abbrev pub decreases-wrapped : goal.decreases-wrapped
decreases-wrapped l = 20 * l.levels + 2

abbrev pub decreases-grammar : goal.decreases-grammar
decreases-grammar l = 20 * l.levels + 2

abbrev pub decreases-div : goal.decreases-div
decreases-div l = 20 * l.levels + 2

abbrev pub decreases-include : goal.decreases-include
decreases-include l = 20 * l.levels + 2

abbrev pub decreases-named : goal.decreases-named
decreases-named l = 20 * l.levels + 2

abbrev pub decreases-particle : goal.decreases-particle
decreases-particle l = 20 * l.levels + 6

abbrev pub decreases-more : goal.decreases-more
decreases-more l = 20 * l.levels + 7

abbrev pub decreases-pattern_from : goal.decreases-pattern_from
decreases-pattern_from l = 20 * l.levels + 9

abbrev pub decreases-excluded : goal.decreases-excluded
decreases-excluded l = 20 * l.levels + 10

abbrev pub decreases-pattern : goal.decreases-pattern
decreases-pattern l = 20 * l.levels + 12

abbrev pub decreases-bare_pattern : goal.decreases-bare_pattern
decreases-bare_pattern l = 20 * l.levels + 11

abbrev pub decreases-component : goal.decreases-component
decreases-component l = 20 * l.levels + 14

abbrev pub decreases-bare_component : goal.decreases-bare_component
decreases-bare_component l = 20 * l.levels + 13

abbrev pub decreases-more_components : goal.decreases-more_components
decreases-more_components l = 20 * l.levels + 15

abbrev pub invariant-more-loop-after : goal.invariant-more-loop-after
invariant-more-loop-after l = Goes (follow l.sign) (particle_with (inside_at l.levels)) (map pattern_of l.all.items) (lexemes_in l.self.count l.rest)
    (with_front (pattern_of l.fn.place ∷ []) (many (follow l.sign) (particle_with (inside_at l.levels)) (lexemes_in l.self.count l.tokens)))

abbrev pub decreases-more-loop-after : goal.decreases-more-loop-after
decreases-more-loop-after l = length l.rest

abbrev pub invariant-more_components-loop-self : goal.invariant-more_components-loop-self
invariant-more_components-loop-self l = Goes (component_front (setting_of l.setting)) (component_with (inside_at l.levels) (setting_of l.setting))
    (map component_of l.all.items) (lexemes_in l.self.count l.rest)
    (with_front (map component_of l.fn.all.items) (components_with (inside_at l.levels) (setting_of l.setting) (lexemes_in l.self.count l.tokens)))

abbrev pub decreases-more_components-loop-self : goal.decreases-more_components-loop-self
decreases-more_components-loop-self l = length l.rest
