-- The simple form of the schema of the lines is the printed grammar, and the schema breaks no clause.
pub mod RenamedSteps
pub mod SimpleDepths
pub mod ClassParts
pub mod GoodGrammars
pub mod FlattenedClasses
pub mod LineTrees
pub mod LinesForm
pub mod LinesGrammar
pub mod LinesWritten
pub mod LinesKept
