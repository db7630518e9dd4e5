-- What a handle owns: null holds nothing, and any other pointer is a box of what the handle holds.
use base.Fml.{Fml, feq}
use base.Stored.{Coded}
use denote.RawPtr.{Ptr, null_ptr}
use Rattle.std.specs.declared.option.Option.{Option}
use Rattle.std.specs.declared.option.Option.TheVariants.{None, Some}
use Rattle.std.specs.Coded.{coded_option}
use Rattle.std.specs.Box.Ownership.{box_owns}
use Rattle.std.specs.Global.{Global}
use Rattle.std_heap.specs.contracts.GlobalAllocator.TheImpl.{ghosts}
use Rattle.rncv_c_handles.specs.contracts.handle.Held.{the_row}

abbrev pub handle_owns : Global → Ptr → Option the_row.Denot → Fml
handle_owns alloc p None = feq Ptr p null_ptr
handle_owns alloc p (Some x) = box_owns (ghosts.dealloc_token alloc) the_row p x

-- the code of what a handle may hold; antt finds it by itself only for types that do not contain themselves
abbrev pub held_coded : Coded (Option the_row.Denot)
held_coded = coded_option the_row.coded
