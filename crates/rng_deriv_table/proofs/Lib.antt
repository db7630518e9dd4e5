pub mod Trees
mod EqualPatterns
pub mod KnownFacts
pub mod Subsequences
mod TableRows
pub mod MemberSkips
mod Units
mod PutPatterns
mod PatternKinds
pub mod Choices
pub mod Alternatives
mod AbsorbedAlternatives
pub mod WiderParts
mod OnlyMember
mod ContentTypes
mod KeptRestrictions
mod Interleaves
mod GrammarUses
mod OpenedChoices
pub mod Taking
mod Renumbering
mod CopiedPatterns
mod JoinedSides
mod Regrouped
mod SelectedNumbers
mod MarkedNumbers
