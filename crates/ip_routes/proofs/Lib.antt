pub mod ResultLemmas
pub mod WrittenLemmas
pub mod SourceLemmas
pub mod LookUpLemmas
pub mod AnswerLemmas
pub mod RouteEntries
mod WrittenExamples
