use Rattle.std.proofs.Common.{rules}
use Rattle.rncv_events.proofs.SettledCalls.{begun, begun_mode}
use Rattle.rncv_events.proofs.document.EventDocument.new.Goals as goal

pub returns-clause-begun : goal.returns-clause-begun
returns-clause-begun c = begun _ _ _ _ (search rules) (search rules)

pub returns-clause-mode : goal.returns-clause-mode
returns-clause-mode c = begun_mode c.into_parts-grammar.result.0.value c.into_parts-grammar.result.1 (search rules)
