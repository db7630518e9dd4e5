-- Names, name classes, characters of names, lists.
pub mod Lists
pub mod NameViews
pub mod Names
