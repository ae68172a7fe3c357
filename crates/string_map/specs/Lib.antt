pub mod Building
pub mod Calls
pub mod Frozen
pub mod Given
pub mod PrefixEnds
pub mod Shown
