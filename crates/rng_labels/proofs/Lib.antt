pub mod LabelCodes
pub mod PairedClasses
pub mod Queues
