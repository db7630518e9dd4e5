use Rattle.std.proofs.Common.{◌+◌, arith, refl}
use Rattle.std.proofs.lemmas.List.{length-drop, take_all}
use Rattle.pyx.proofs.Lines.TextCuts.{cut_here, cut_nowhere}
use Rattle.pyx.proofs.pieces.first_line.Goals as goal

pub returns-in-Some-clause-parts : goal.returns-in-Some-clause-parts
returns-in-Some-clause-parts c = cut_here 10 _ c.args.bytes.now _ _ c.in-Some.at refl c.in-Some.ensures.0 c.in-Some.ensures.1 refl
    (take_all _ _ (omega (arith, length-drop (c.in-Some.at + 1) c.args.bytes.now)))

pub returns-in-None-clause-parts : goal.returns-in-None-clause-parts
returns-in-None-clause-parts c = cut_nowhere 10 _ c.args.bytes.now refl c.in-None.ensures
