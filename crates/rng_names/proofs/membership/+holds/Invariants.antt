use Rattle.std.proofs.Common.{◌≡◌, take, false}
use Rattle.std.specs.List.{list_any}
use Rattle.rng_model.specs.names.NameViews.{class_of}
use Rattle.rng_names.specs.plain.Holding.{holds, pair}
use Rattle.rng_names.proofs.membership.+holds.Given as goal

-- no member so far holds the name
abbrev pub invariant-members : goal.invariant-members
invariant-members l = list_any (λ c. holds (class_of c) (pair l.ns l.local)) (take l.member-index l.member-items) ≡ false
