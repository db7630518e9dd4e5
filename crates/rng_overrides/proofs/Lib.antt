pub mod InsertedKeys
mod NamesThatOverride
mod AppendedLists
