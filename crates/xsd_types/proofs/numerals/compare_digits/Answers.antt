use Rattle.std.proofs.Common.{◌≡◌, ◌≢◌, length, rules, tests, ◌∙◌}
use Rattle.xsd_types.proofs.Digits.{compared_from_front, compared_by_length}
use Rattle.xsd_types.proofs.numerals.compare_digits.Goals as goal

pub returns-then-a-b : goal.returns-then-a-b
returns-then-a-b c =
    let same : length c.args.a.now ≡ length c.args.b.now = search (rules, tests) in
    c.cmp.ensures ∙ compared_from_front c.args.a.now c.args.b.now c.requires.left c.requires.right same

pub returns-else-a-b : goal.returns-else-a-b
returns-else-a-b c =
    let other : length c.args.a.now ≢ length c.args.b.now = search (rules, tests) in
    c.cmp-else-a-b.ensures ∙ compared_by_length c.args.a.now c.args.b.now c.requires.left c.requires.right other
