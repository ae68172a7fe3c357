-- the definitions that changes cite: pairs, canonical roots, and what a change keeps and touches and takes from a promise
pub use Rattle.art_model.specs.Pairs
pub use Rattle.art_model.specs.Trees
pub use Rattle.art_model.specs.Layouts
pub use Rattle.art_model.specs.Stores
pub use Rattle.art_model.specs.Canonical
pub use Rattle.art_model.specs.Roots
pub use Rattle.art_model.specs.Lookups
pub use Rattle.art_model.specs.Kept
pub use Rattle.art_model.specs.Footprints
pub use Rattle.art_model.specs.Promises
pub use Rattle.art_reading.specs.Matching
pub use Rattle.art_reading.specs.PathSteps
pub use Rattle.art_reading.specs.EndNodes
pub use Rattle.art_copying.specs.Directions
pub use Rattle.art_copying.specs.Freed
-- the parent at the end of a path, and the neighbours of a leaf
pub mod ParentWrites
-- insertion
pub mod Points
pub mod Inserted
pub mod Conflicts
pub mod Branches
pub mod Overwritten
pub mod Applied
-- deletion
pub mod Deleted
pub mod EndLaws
pub mod TakenOut
pub mod SubtreePoints
pub mod Collapsed
