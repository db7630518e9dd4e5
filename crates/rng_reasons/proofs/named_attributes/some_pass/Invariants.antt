use Rattle.std.proofs.Common.{◌≡◌, false, get_or, take}
use Rattle.std.specs.List.{list_any}
use Rattle.rng_reasons.proofs.named_attributes.some_pass.Given as goal

abbrev pub invariant-members : goal.invariant-members
invariant-members l = list_any (λ m. get_or l.tests m.0 false) (take l.member-index l.members) ≡ false
