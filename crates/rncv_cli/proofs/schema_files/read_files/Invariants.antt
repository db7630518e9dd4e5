use Rattle.std.proofs.Common.{◌≡◌, ◌++◌}
use Rattle.std.specs.Vec.Iter.{into_iter_items}
use Rattle.rncv_cli.specs.plain.Answering.{AreRead, IsReadBy}
use Rattle.rncv_cli.proofs.schema_files.read_files.Given as goal

abbrev pub invariant-loop-name : goal.invariant-loop-name
invariant-loop-name g l = record {
  are_read : AreRead (IsReadBy g.O.Fn l.fn.open_file g.T.Read.remaining) l.yielded l.files.items;
  all : l.yielded ++ into_iter_items l.name-iterator ≡ l.fn.names.items;
}
