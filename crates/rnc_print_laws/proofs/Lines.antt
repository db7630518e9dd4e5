-- The printed lines as a schema: it is read, and each name finds its line.
pub mod ReadClasses
pub mod ReadLines
pub mod LinesTaken
pub mod ListedLines
pub mod ItemNames
pub mod LinesFound
