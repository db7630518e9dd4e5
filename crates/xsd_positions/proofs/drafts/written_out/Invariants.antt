use Rattle.std.proofs.Common.{◌≡◌, map, length}
use Rattle.std.specs.Vec.Iter.{into_iter_items, into_iter_len}
use Rattle.xsd_regex.specs.views.Rows.{row_of}
use Rattle.xsd_positions.specs.views.Drafts.{draft_of}
use Rattle.xsd_positions.specs.plain.Drafts.{nothing_written, written}
use Rattle.xsd_positions.proofs.drafts.written_out.Given as goal

abbrev pub invariant-rows : goal.invariant-rows
invariant-rows l = record {
  same : written (map row_of (into_iter_items l.row-iterator)) (draft_of l.draft) ≡ written (map row_of l.fn.rows.items) nothing_written;
  left : length (into_iter_items l.row-iterator) ≡ into_iter_len l.row-iterator;
}
