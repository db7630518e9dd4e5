-- Bytes that are fed in pieces, and their lines.
pub mod LineTurns
pub mod FirstLines
pub mod LinesOfPieces
pub mod WholeBytes
pub mod LineCounts
pub mod PieceCounts
pub mod ReaderAfterPiece
