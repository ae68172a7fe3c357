pub mod MapPairs
pub mod MapAnswers
pub mod PairChanges
