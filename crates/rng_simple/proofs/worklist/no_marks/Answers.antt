use Rattle.std.proofs.Common.{rules, ◌≡◌, sym, subst, false, [], ◌∷◌, ◌++◌}
use Rattle.rng_simple.specs.plain.Worklist.{IsMarked}
use Rattle.rng_simple.proofs.Tables.QueueMarks.{none_more, none_at_first}
use Rattle.rng_simple.proofs.worklist.no_marks.Goals as goal

pub loop-k-init : goal.loop-k-init
loop-k-init c =
    let e : c.new-marks.result.items ≡ [] = search rules in
    record { long = search rules; none = subst (λ xs. IsMarked xs []) (sym e) none_at_first }

pub loop-k-preserved : goal.loop-k-preserved
loop-k-preserved c =
    let e : c.push.new.self.items ≡ c.loop-k.marks.items ++ false ∷ [] = search rules in
    record { long = search rules; none = subst (λ xs. IsMarked xs []) (sym e) (none_more c.loop-k.marks.items c.loop-k.invariant.none) }
