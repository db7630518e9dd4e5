-- File trees, and declarations.
pub mod AppliedDeclarations
pub mod DeclarationRules
pub mod Declarations
pub mod TokenUses
pub mod FaultyTokens
pub mod FileTree
