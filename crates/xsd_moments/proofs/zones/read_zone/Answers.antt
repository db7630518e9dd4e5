use Rattle.std.proofs.Common.{◌≢◌, get_or, ◌∙◌, rules, tests}
use Rattle.xsd_moments.proofs.ZoneRuns.{other_zone}
use Rattle.xsd_moments.proofs.zones.read_zone.Goals as goal

pub returns-in_default : goal.returns-in_default
returns-in_default c =
    let s = c.args.bytes.now in
    let plus : get_or s 0 0 ≢ 43 = search (rules, tests) in
    let minus : get_or s 0 0 ≢ 45 = search (rules, tests) in
    let utc : get_or s 0 0 ≢ 90 = search (rules, tests) in
    c.if_ends-in_default.ensures ∙ other_zone s c.in_default.len_at_least plus minus utc
