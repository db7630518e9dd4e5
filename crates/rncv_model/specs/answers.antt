-- Verdicts, answers, status.
pub mod Answer
pub mod Run
pub mod Verdict
pub mod VerdictWith
