pub mod RefusedFiles
pub mod DocumentVerdict
pub mod FedDocuments
pub mod FreshStates
pub mod GoodSchemas
pub mod ProfileSchemas
pub mod UnknownNames
