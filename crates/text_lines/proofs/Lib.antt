pub mod LineParts
pub mod Reading
pub mod Writing
pub mod Spaces
mod LineExamples
