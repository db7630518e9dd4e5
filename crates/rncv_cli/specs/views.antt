-- Views of types, and invariants.
pub mod ExitStatus
pub mod Faults
pub mod ProgramEnds
