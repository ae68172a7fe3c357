-- names and headers
pub use Rattle.art_parts.specs.Kinds
pub use Rattle.art_parts.specs.Headers
-- inner nodes
pub mod Inner
pub mod Views
pub mod Beside
pub mod InnerChanges
pub mod InnerRenamed
pub mod NewNames
-- their tables
pub mod Tables
pub mod AnyTables
pub mod Rows
pub mod Spans
pub mod Direct
pub mod Indexed
pub mod Rests
