use Rattle.std.proofs.Common.{◌≡◌, take, false}
use Rattle.std.specs.List.{list_any}
use Rattle.rng_names.proofs.CoveredNames.{is_listed}
use Rattle.rng_names.proofs.namespaces.Namespaces.are_apart.Given as goal

-- none of the others so far is listed
abbrev pub invariant-loop-ns : goal.invariant-loop-ns
invariant-loop-ns l = list_any (λ k. is_listed l.self.listed.keys k.now) (take l.ns-index l.ns-items) ≡ false
