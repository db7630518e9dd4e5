-- One line: its names, escapes and text, and its content or the least clause that it breaks.
pub mod WrittenNames
pub mod TextCuts
pub mod ByteMasks
pub mod LineTexts
pub mod PlainTexts
pub mod NamesInLines
pub mod ReplacedEscapes
pub mod EscapedTexts
pub mod LineClauses
pub mod SaidLines
