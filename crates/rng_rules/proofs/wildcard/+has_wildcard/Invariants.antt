use Rattle.std.proofs.Common.{◌≡◌, take, false}
use Rattle.std.specs.List.{list_any}
use Rattle.rng_model.specs.names.NameViews.{class_of}
use Rattle.rng_rules.specs.plain.Facts.{has_wildcard}
use Rattle.rng_rules.proofs.wildcard.+has_wildcard.Given as goal

-- no member so far has one
abbrev pub invariant-members : goal.invariant-members
invariant-members l = list_any (λ c. has_wildcard (class_of c)) (take l.member-index l.member-items) ≡ false
