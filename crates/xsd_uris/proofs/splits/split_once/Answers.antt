use Rattle.xsd_uris.specs.plain.UriShapes.{is}
use Rattle.xsd_uris.proofs.TextParts.{once_none, once_some}
use Rattle.xsd_uris.proofs.splits.split_once.Goals as goal

pub returns-in-Some : goal.returns-in-Some
returns-in-Some c =
    once_some (is c.args.mark) c.args.bytes.now c.cut_at.result.0.now c.cut_at.result.1.now c.in-Some.back.now c.in-Some.field-0-0.now c.cut_at.ensures.before
    c.cut_at.ensures.from c.in-Some.ensures.cases

pub returns-in-None : goal.returns-in-None
returns-in-None c = once_none (is c.args.mark) c.args.bytes.now c.cut_at.result.1.now c.cut_at.ensures.from c.in-None.ensures.cases
