use Rattle.std.proofs.Common.{rules}
use Rattle.rng_simple.proofs.Tables.RowTable.{first_row}
use Rattle.rng_simple.proofs.Tables.RowLabels.{none_coded}
use Rattle.rng_simple.proofs.row_table.RowTable.new.Goals as goal

pub returns : goal.returns
returns c = record {
  index = c.in_ok-number.ensures.index;
  rows = first_row _ _ c.new-rows.result.items c.number.new.rows.items c.in_ok-number.field-0 c.new-rows.ensures.items c.in_ok-number.ensures.stays
      c.in_ok-number.ensures.there;
  coded = record {
    classes = none_coded _ _ (search rules) (search rules);
    datatypes = none_coded _ _ (search rules) (search rules);
    values = none_coded _ _ (search rules) (search rules);
  };
}
