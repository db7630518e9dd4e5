-- What a handle holds may move to another thread and be shared there: the tables of a schema hold texts, numbers and
-- name classes.
use denote.Param.Send.{IsSend, IsSync, recorded_send, recorded_sync, sendable}
use Rattle.std.proofs.Crossing.{Box-send, Box-sync, Vec-send, Vec-sync, crosses}
use Rattle.rng_model.proofs.name.Name.TheSendSync as name
use Rattle.rng_model.proofs.namespace.Namespace.TheSendSync as namespace
use Rattle.rng_model.proofs.name.NameClass.TheLaws.TheKnot as knot
use Rattle.rng_model.proofs.datatype.Datatype.TheSendSync as datatype
use Rattle.rng_model.proofs.datatype.DatatypeValue.TheSendSync as value
use Rattle.pyx.proofs.reader.Reader.TheSendSync as reader
use Rattle.rng_deriv.proofs.matcher_state.MatcherState.TheSendSync as state
use Rattle.rncv_validator.proofs.fault.DocumentFault.TheSendSync as fault
use Rattle.rncv_validator.specs.contracts.validator.Validator as Validator
use Rattle.rncv_validator.specs.contracts.document.Document as Document
use Rattle.element_events.proofs.elements.ElementEvents.TheSendSync as elements
use Rattle.element_events.proofs.fault.EventFault.TheSendSync as event_fault
use Rattle.rncv_events.specs.contracts.document.EventDocument as EventDocument
use Rattle.rng_model.specs.contracts.name.NameClass as NameClass
use Rattle.rng_model.specs.contracts.simple.Simple as Simple
use Rattle.rng_model.specs.contracts.grammar.SimpleGrammar as SimpleGrammar

class_field_send : IsSend (NameClass.the_field).row
class_field_send = knot.send-NameClass Box-send namespace.the_field_send name.the_field_send Vec-send

class_field_sync : IsSync (NameClass.the_field).row
class_field_sync = knot.sync-NameClass Box-sync namespace.the_field_sync name.the_field_sync Vec-sync

class_send : IsSend NameClass.the_row
class_send = recorded_send (NameClass.the_field).row _ _ (NameClass.the_type).to_one class_field_send

class_sync : IsSync NameClass.the_row
class_sync = recorded_sync (NameClass.the_field).row _ _ (NameClass.the_type).to_one class_field_sync

simple_send : IsSend Simple.the_row
simple_send = search (sendable, crosses, class_send, datatype.the_send, value.the_send) depth 20

simple_sync : IsSync Simple.the_row
simple_sync = search (sendable, crosses, class_sync, datatype.the_sync, value.the_sync) depth 20

grammar_send : IsSend SimpleGrammar.the_row
grammar_send = search (sendable, crosses, class_send, simple_send) depth 20

grammar_sync : IsSync SimpleGrammar.the_row
grammar_sync = search (sendable, crosses, class_sync, simple_sync) depth 20

pub validator_send : IsSend Validator.the_row
validator_send = search (sendable, crosses, grammar_send, grammar_sync, state.the_send) depth 20

pub document_send : IsSend Document.the_row
document_send = search (sendable, crosses, grammar_send, grammar_sync, reader.the_send, state.the_send, fault.the_send) depth 20

pub events_send : IsSend EventDocument.the_row
events_send = search (sendable, crosses, grammar_send, grammar_sync, elements.the_send, state.the_send, event_fault.the_send) depth 20
