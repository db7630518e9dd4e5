use Rattle.std.proofs.Common.{◌<◌, All, List, length, subst, sym}
use Rattle.rng_deriv_table.specs.views.Node.{node_of}
use Rattle.rng_deriv_table.specs.views.PatternTable.{ArePartsBelow}
use Rattle.rng_deriv_table.specs.declared.pattern.PatternNumber.{PatternNumber}
use Rattle.rng_deriv_table.proofs.KnownFacts.{of_members}
use Rattle.rng_deriv_table.proofs.selecting.renumbered.Goals as goal

pub all_given-requires : goal.all_given-requires
all_given-requires c =
    let l = length c.args.given.now in
    let Below : List PatternNumber → Type 0 = λ ms. All (λ n. n.0 < l) ms in
    subst Below (sym c.as_slice.ensures.value)
    (of_members (λ m. m < l) c.in-Choice.members.items (subst (λ p. ArePartsBelow l (node_of p)) c.in-Choice.is c.requires).1)
