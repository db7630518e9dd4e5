use Rattle.std.proofs.Common.{◌≡◌, true, false, int_le, pos, ◌∙◌, rules, tests}
use Rattle.xsd_types.proofs.CountedNumbers.{counted, low, unread}
use Rattle.xsd_types.proofs.counts.count_in.Goals as goal

pub returns-in-Ok : goal.returns-in-Ok
returns-in-Ok c =
    let enough : int_le (pos c.args.least) c.in-Ok.n ≡ true = search (rules, tests) in
    search rules ∙ counted c.args.numeral.now c.args.least c.in-Ok.n c.in-Ok.ensures.value.0 enough

pub returns-in_default : goal.returns-in_default
returns-in_default c =
    let few : int_le (pos c.args.least) c.in-Ok.n ≡ false = search (rules, tests) in
    low c.args.numeral.now c.args.least c.in-Ok.n c.in-Ok.ensures.value.0 few

pub returns-in_default-2 : goal.returns-in_default-2
returns-in_default-2 c = unread c.args.numeral.now c.args.least c.in_default.ensures.value.0
