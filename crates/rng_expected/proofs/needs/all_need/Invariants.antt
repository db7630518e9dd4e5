use Rattle.std.proofs.Common.{◌≡◌, All, false, get_or, take, true}
use Rattle.rng_expected.proofs.needs.all_need.Given as goal

abbrev pub invariant-members : goal.invariant-members
invariant-members l = All (λ m. get_or l.tests m.0 false ≡ true) (take l.member-index l.members)
