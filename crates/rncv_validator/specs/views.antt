-- Views of types, and what they represent.
pub mod Documents
pub mod FedDocuments
pub mod Places
pub mod Validators
