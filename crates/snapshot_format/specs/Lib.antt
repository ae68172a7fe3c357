pub mod Numbers
pub mod Snapshots
pub mod Entries
pub mod Lists
pub mod Reading
pub mod Faults
pub mod Writing
