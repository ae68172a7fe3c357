-- the definitions that these operations cite: pairs, canonical roots, and what a change keeps and takes from a promise
pub use Rattle.art_model.specs.Pairs
pub use Rattle.art_model.specs.Clones
pub use Rattle.art_model.specs.Trees
pub use Rattle.art_model.specs.Layouts
pub use Rattle.art_model.specs.Stores
pub use Rattle.art_model.specs.Canonical
pub use Rattle.art_model.specs.Roots
pub use Rattle.art_model.specs.Lookups
pub use Rattle.art_model.specs.Kept
pub use Rattle.art_model.specs.Promises
-- the links of leaves
pub mod Directions
-- the freeing of trees, and copies
pub mod Freed
pub mod Cloned
