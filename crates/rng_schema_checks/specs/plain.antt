-- Plain functions that the code is proved against, and private relations.
pub mod ClassTests
pub mod ClauseTests
pub mod GrammarTests
pub mod Judged
pub mod PatternTests
pub mod RowTests
pub mod RuleTests
