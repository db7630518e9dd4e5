use Rattle.std.proofs.Common.{◌≡◌, take, not, ◌&&◌, false}
use Rattle.std.specs.List.{list_any}
use Rattle.rng_model.specs.names.NameViews.{class_of}
use Rattle.rng_names.specs.plain.Holding.{holds, pair}
use Rattle.rng_names.specs.views.Alternatives.{in_scope}
use Rattle.rng_names.proofs.alternatives.+hold_in.Given as goal

-- the table of an except has a smaller number
abbrev pub decreases-hold_in : goal.decreases-hold_in
decreases-hold_in l = l.number

-- none of the alternatives so far holds the name
abbrev pub invariant-excepts : goal.invariant-excepts
invariant-excepts l =
    list_any (λ e. in_scope e.ns l.ns && not (holds (class_of e.except.now) (pair l.ns l.local))) (take l.excepted-index l.excepted-items) ≡ false
