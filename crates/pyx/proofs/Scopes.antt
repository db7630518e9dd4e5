-- The open elements and their declarations, as the code keeps them.
pub mod DeclarationBytes
pub mod DeclarationSlots
pub mod DeclarationPlaces
pub mod DeclaredNamespaces
pub mod OpenStack
pub mod OpenNames
pub mod KnownNames
