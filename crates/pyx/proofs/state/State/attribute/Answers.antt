use Rattle.pyx.proofs.Lines.ReplacedEscapes.{literal_after}
use Rattle.pyx.proofs.state.State.attribute.Goals as goal

pub append-requires : goal.append-requires
append-requires c set = literal_after 32 _ _ _ c.in-Some.ensures (c.requires.literal set)
