pub mod Longest
pub mod Both
pub mod Agree
pub mod Gathered
pub mod LongerOfTwo
pub mod Due
mod LeaseExamples
