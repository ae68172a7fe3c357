-- which networks cover an address
pub mod CoverLemmas
-- the columns of starts
pub mod StartLemmas
-- steps from a network to shorter ones
pub mod StepLemmas
-- rows in order
pub mod RowLemmas
-- columns of what else networks have
mod RestLemmas
-- rows that are sorted
pub mod SortingLemmas
-- rows in order
pub mod OrderLemmas
mod ArrangeLemmas
-- tables of rows and values
pub mod NetworkTables
-- parts of tables
pub mod PartLemmas
-- items that are made of those of a list
pub mod ZipLemmas
-- parts of a list that pass a test
pub mod FilterLemmas
-- networks worked out by hand
mod NetworkExamples
