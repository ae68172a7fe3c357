-- Lemmas about lists of any elements.
pub mod Lists
pub mod Pairwises
pub mod Filters
pub mod Entries
