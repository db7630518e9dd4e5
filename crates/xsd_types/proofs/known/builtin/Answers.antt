use Rattle.std.proofs.Common.{sym}
use Rattle.rng_types.specs.views.View.{datatype_at}
use Rattle.rng_types.proofs.FoundDatatypes.{meaning_is, no_meaning}
use Rattle.xsd_types.proofs.known.builtin.Goals as goal

pub returns-in-Ok : goal.returns-in-Ok
returns-in-Ok c = sym (meaning_is (datatype_at c.args.library.now c.args.name.now c.args.params.now) c.in-Ok.datatype c.in-Ok.ensures.found)

pub returns-in-Err : goal.returns-in-Err
returns-in-Err c = sym (no_meaning (datatype_at c.args.library.now c.args.name.now c.args.params.now) c.in-Err.field-0 c.in-Err.ensures.found)
