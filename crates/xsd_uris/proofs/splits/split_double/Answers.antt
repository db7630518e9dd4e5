use Rattle.std.proofs.Common.{◌≡◌, None, rules}
use Rattle.xsd_uris.specs.plain.DoubleColons.{after_double}
use Rattle.xsd_uris.proofs.DoubleColonSearch.{passed_on}
use Rattle.xsd_uris.proofs.splits.split_double.Goals as goal

pub bytes-preserved : goal.bytes-preserved
bytes-preserved c =
    let none : None ≡ after_double c.bytes.rest.now = search rules in
    passed_on c.args.bytes.now c.bytes.rest.now c.in-Some.after.now c.in-Some.field-0-0.now c.in-Some.ensures.cases.0 none c.bytes.invariant
