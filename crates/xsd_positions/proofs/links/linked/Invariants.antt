use Rattle.std.proofs.Common.{◌≡◌, drop}
use Rattle.xsd_positions.specs.views.Drafts.{links_of}
use Rattle.xsd_positions.specs.plain.Links.{no_links, linked}
use Rattle.xsd_positions.proofs.links.linked.Given as goal

abbrev pub invariant-rows : goal.invariant-rows
invariant-rows l = linked (drop l.kind-index l.rows) (links_of l.links) ≡ linked l.rows no_links
