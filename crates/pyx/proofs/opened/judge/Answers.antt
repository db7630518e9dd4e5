use Rattle.std.proofs.Common.{◌∙◌, sym}
use Rattle.pyx.proofs.Scopes.OpenNames.{some}
use Rattle.pyx.proofs.opened.judge.Goals as goal

pub returns-in-Some : goal.returns-in-Some
returns-in-Some c = λ scope all.
    let there = c.in-Some.ensures scope all in
    (sym (there.0 (some c.args.name.now (sym c.is_empty.ensures ∙ c.if-not-is_empty.true))), there.1)
