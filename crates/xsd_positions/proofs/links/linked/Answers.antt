use Rattle.std.proofs.Common.{◌∙◌}
use Rattle.xsd_positions.specs.plain.Links.{with_kind}
use Rattle.xsd_positions.proofs.Steps.{stops_at, goes_on_at, ends_at}
use Rattle.xsd_positions.proofs.links.linked.Goals as goal

pub returns-then-not-branch : goal.returns-then-not-branch
returns-then-not-branch c =
    stops_at with_kind c.args.rows.now c.rows.kind-index _ _ _ _ c.rows-test.true c.if-not-branch.true c.in_ok-put_kind.ensures ∙ c.rows.invariant

pub rows-preserved : goal.rows-preserved
rows-preserved c =
    goes_on_at with_kind c.args.rows.now c.rows.kind-index _ _ _ _ c.rows-test.true c.if-not-branch.false c.in_ok-put_kind.ensures ∙ c.rows.invariant

pub returns : goal.returns
returns c = ends_at with_kind c.args.rows.now c.rows.kind-index _ c.rows-test.false ∙ c.rows.invariant
