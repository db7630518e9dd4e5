-- Plain functions that the code is proved against, and private relations.
pub mod Cuts
pub mod Declarations
pub mod Held
pub mod NamespacesSlots
pub mod WrittenNames
pub mod DocumentReader
pub mod Escapes
pub mod LineReader
pub mod Marks
pub mod Pieces
pub mod PlainBytes
pub mod Slots
pub mod TagReader
