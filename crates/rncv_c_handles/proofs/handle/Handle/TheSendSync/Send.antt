-- A handle may move to another thread, since what it holds may.
use mir.Raw.{raw}
use base.Shift.{Keyless}
use denote.Memory.{lone}
use denote.RawPtr.{Ptr}
use denote.Struct.Struct.{exits_of}
use denote.Struct.Owning.{shape, fields, to}
use denote.Param.Send.{IsSend, AllSend, owning_send, struct_send, sendable}
use Rattle.std.proofs.Crossing.{crosses, frees}
use Rattle.std.specs.Global.{Global}
use Rattle.std.specs.declared.option.Option.{Option}
use Rattle.std.specs.declared.option.Option.TheVariants.{None, Some}
use Rattle.std_alloc.proofs.SendSync.{quiet, lies}
use Rattle.std_heap.proofs.Global.TheSendSync as global
use Rattle.rncv_c_handles.proofs.Crossing.{document_send, events_send, validator_send}
use Rattle.rncv_c_handles.specs.views.Handles.{handle_owns}
use Rattle.rncv_c_handles.specs.contracts.handle.Held as Held
use Rattle.rncv_c_handles.specs.contracts.handle.Handle.{the_row, the_type}

-- what a handle may hold may move: a schema, or a document in progress
held : IsSend Held.the_row
held = search (sendable, crosses, validator_send, document_send, events_send) depth 20

keyless : (alloc : Global) (p : Ptr) (held : Option (Held.the_row).Denot) → Keyless (handle_owns alloc p held)
keyless alloc p None = tt
keyless alloc p (Some x) = (lies Held.the_row held p x, frees.frees alloc (raw (lone (Held.the_row).mir)) p)

pub send : IsSend the_row
send =
    let all : AllSend (fields the_type) = (search sendable, (global.the_field_send, tt)) in
    owning_send the_type all (λ d. keyless d.alloc d.at d.held) (λ k. quiet (to the_type) (exits_of k (fields the_type)) ((struct_send (shape the_type) all).leaving k))
