mod AnswerLines
pub mod AnswersByVerdict
mod FedInput
mod JudgedInput
mod LoadedSchemas
mod OneAnswer
mod OneSimpleForm
mod Refusals
