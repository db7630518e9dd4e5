-- Nothing is fed, and then again nothing.
use Rattle.std.proofs.Common.{false}
use Rattle.rncv_c_handles.proofs.documents.begun.Goals as goal

pub returns-in-Ok-clause-done : goal.returns-in-Ok-clause-done
returns-in-Ok-clause-done c = λ done. record {
  fed = c.in-Ok.ensures.fed _ c.document-document.ensures.begun;
  mode = c.in-Ok.ensures.mode false c.document-document.ensures.mode;
  working = c.in-Ok.ensures.working;
}
