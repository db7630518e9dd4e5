use Rattle.std.proofs.Common.{◌≡◌, take, false}
use Rattle.std.specs.List.{list_any}
use Rattle.rng_model.specs.names.NameViews.{class_of}
use Rattle.rng_names.specs.plain.Written.{both_hold, is_met}
use Rattle.rng_names.proofs.common_name.+is_met.Given as goal

-- the test passes for no member so far
abbrev pub invariant-members : goal.invariant-members
invariant-members l =
    list_any (λ c. is_met (both_hold (class_of l.a) (class_of l.b)) l.fresh (class_of c)) (take l.member-index l.member-items) ≡ false
