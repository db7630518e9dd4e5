use Rattle.std.proofs.Common.{◌∷◌, []}
use Rattle.pyx.proofs.opened.undeclare.Goals as goal

pub returns-clause-known : goal.returns-clause-known
returns-clause-known c = c.forget.ensures (c.args.declarations.now ∷ []) (c.remove.new.declarations ∷ []) c.requires
