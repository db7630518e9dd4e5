-- Views of types, and invariants.
pub mod PiecesView
pub mod NumbersViews
pub mod PlaceViews
pub mod ReplacedLists
pub mod SchemaView
pub mod ItemViews
pub mod DeviceViews
