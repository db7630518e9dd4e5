-- The drafts and links that values of the code stand for.
use Rattle.std.specs.Prelude.{map, reverse}
use Rattle.xsd_regex.specs.views.Classes.{class_of}
use Rattle.xsd_positions.specs.declared.drafts.Draft.{Draft}
use Rattle.xsd_positions.specs.declared.links.Links.{Links}
use Rattle.xsd_positions.specs.plain.Drafts as spec
use Rattle.xsd_positions.specs.plain.Links as plain

abbrev pub draft_of : Draft → spec.Draft
draft_of d = record { rows = d.rows.items; classes = map class_of d.classes.items; blocks = reverse d.blocks.items }

abbrev pub links_of : Links → plain.Links
links_of l = record { positions = l.positions.items; roots = reverse l.roots.items }
