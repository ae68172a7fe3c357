pub mod Folds
pub mod Checks
pub mod Marks
pub mod Meetings
pub mod Checked
pub mod Untried
