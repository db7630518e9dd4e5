use Rattle.pyx.proofs.Lines.ReplacedEscapes.{literal_behind}
use Rattle.pyx.proofs.state.State.said.Goals as goal

pub attribute-requires-clause-literal : goal.attribute-requires-clause-literal
attribute-requires-clause-literal g c set = literal_behind 65 _ _ c.in-Some-behind.ensures (c.requires.literal set)

pub text-requires : goal.text-requires
text-requires g c set = literal_behind 45 _ _ c.in-Some-behind-2.ensures (c.requires.literal set)
