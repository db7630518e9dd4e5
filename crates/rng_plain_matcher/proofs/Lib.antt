mod FirstItems
mod GrammarRows
mod KnownDocuments
mod Ranks
mod StartedStates
mod TakenEvents
mod WayLists
