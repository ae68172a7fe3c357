-- the definitions that lookups and iterations cite
pub use Rattle.art_model.specs.Pairs
pub use Rattle.art_model.specs.Trees
pub use Rattle.art_model.specs.Roots
pub use Rattle.art_model.specs.Lookups
pub mod Matching
pub mod PathSteps
pub mod Guides
pub mod EndNodes
pub mod Stored
pub mod Readings
pub mod Descents
pub mod Iterators
pub mod PartEnds
pub mod Found
