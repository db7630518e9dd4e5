use Rattle.std.proofs.Common.{◌≡◌, take, fold, max}
use Rattle.rng_model.specs.names.NameViews.{class_of}
use Rattle.rng_names.specs.plain.Written.{longest}
use Rattle.rng_names.proofs.written.+longest.Given as goal

-- the longest text of the members so far
abbrev pub invariant-members : goal.invariant-members
invariant-members l = l.most ≡ fold (λ n c. max n (longest (class_of c))) 0 (take l.member-index l.member-items)
