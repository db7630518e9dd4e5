-- What comes from the characters of a file is well spelled: tokens, trees, components.
pub mod FileCharacters
pub mod RoomForBrackets
pub mod Tokens
pub mod SyntaxTrees
pub mod FileTrees
pub mod Components
