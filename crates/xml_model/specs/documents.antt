-- Elements and their content, whole documents, the sizes that limits are about, and the six answers.
pub mod Content
pub mod WholeDocuments
pub mod Sizes
pub mod Answers
