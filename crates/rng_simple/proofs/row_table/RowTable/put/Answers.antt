use Rattle.rng_simple.specs.views.RowIndex.{number_of_row}
use Rattle.rng_simple.specs.views.RowTable.{labels_of}
use Rattle.rng_simple.proofs.Tables.RowTable as table
use Rattle.rng_simple.proofs.row_table.RowTable.put.Goals as goal

module _ (c : goal.In_ok-id) where
  is_put : table.IsPut (labels_of c.args.self.now) c.args.self.now.rows.items c.args.row c.requires.table.rows c.requires.below c.requires.labelled
      c.requires.simple c.number.new.rows.items c.in_ok-id.id
  is_put =
      table.put (labels_of c.args.self.now) c.args.self.now.rows.items c.args.row c.requires.table.rows c.requires.below c.requires.labelled c.requires.simple
      (number_of_row c.args.self.now.numbers c.args.row) c.number.new.rows.items c.in_ok-id.id c.in_ok-id.ensures.stays c.in_ok-id.ensures.there

pub returns-clause-grown : goal.returns-clause-grown
returns-clause-grown c =
    let p = is_put c in record {
      table = record {
        index = c.in_ok-id.ensures.index;
        rows = p.rows_after;
        coded = let d = c.requires.table.coded in record { classes = d.classes; datatypes = d.datatypes; values = d.values };
      };
      long = p.long;
      stays = p.stays;
    }

pub returns-clause-tree : goal.returns-clause-tree
returns-clause-tree c = (is_put c).tree
