use Rattle.rng_types.specs.views.View.{meaning_by, datatype_at, seen}
use Rattle.rng_types.proofs.Finding.{type_found, fault_found}
use Rattle.rng_types.proofs.builtin.Builtin.find.Goals as goal

pub returns-clause-found : goal.returns-clause-found
returns-clause-found c =
    let d = datatype_at c.args.lib.now c.args.name.now c.args.params.now in
    type_found d (seen meaning_by c.find_type.result) c.find_type.ensures

pub returns-clause-fault : goal.returns-clause-fault
returns-clause-fault c =
    let d = datatype_at c.args.lib.now c.args.name.now c.args.params.now in fault_found meaning_by d c.find_type.result c.find_type.ensures
