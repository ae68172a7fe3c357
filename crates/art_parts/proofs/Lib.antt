pub mod NameLemmas
pub mod Comparisons
pub mod HeaderLemmas
pub mod HeaderLaws
