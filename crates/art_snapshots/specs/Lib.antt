pub mod MapEntries
pub mod ValueBytes
