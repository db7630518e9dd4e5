use Rattle.rncv_c_handles.specs.views.Held.{schema_in}
use Rattle.rncv_c.proofs.ProfileCompiled.{all_refused, one_compiled}
use Rattle.rncv_c.proofs.schemas.compile.Goals as goal

pub returns-clause-done : goal.returns-clause-done
returns-clause-done c = λ done. one_compiled c.args.files.now (schema_in c.compile_with.new.schema.held) (c.compile_with.ensures.done done)

pub returns-clause-refused : goal.returns-clause-refused
returns-clause-refused c = λ refused. all_refused c.args.files.now c.compile_with.new.fault (c.compile_with.ensures.refused refused)
