-- Views of types, and invariants.
pub mod DeclarationView
pub mod FoundNamespaces
pub mod WrittenAttributes
pub mod Calls
pub mod ElementView
pub mod Held
pub mod HeldCalls
pub mod ReaderAfterPiece
pub mod View
