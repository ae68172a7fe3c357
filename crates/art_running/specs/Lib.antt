pub mod Answers
pub mod Needs
pub mod Steps
pub mod Runs
pub mod Made
