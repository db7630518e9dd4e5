use Rattle.std.proofs.Common.{◌≡◌, ◌∙◌, ◌+◌, ◌-◌, ap, arith, drop}
use Rattle.std.proofs.lemmas.List.{drop-drop}
use Rattle.pyx.proofs.opened.remove.Goals as goal

pub innermost-preserved : goal.innermost-preserved
innermost-preserved c =
    let n = c.innermost.left in
    let one : 1 + (n - 1) ≡ n = omega (arith, c.innermost-test.true) in
    ap (drop (n - 1)) c.pop.ensures.removed ∙ drop-drop (n - 1) 1 c.innermost.declarations ∙ ap (λ k. drop k c.innermost.declarations) one
    ∙ c.innermost.invariant
