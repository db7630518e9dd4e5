pub mod NameViews
pub mod ClassChoices
pub mod Holding
pub mod FreshTexts
pub mod PlainNames
pub mod NameSets
pub mod HeldByAlternatives
mod KeyLookups
mod ExceptTables
mod CoveredNames
mod OwnKeys
mod CollectedNames
mod NamespaceKeys
mod Regions
mod SharedKeys
pub mod ServingKeys
