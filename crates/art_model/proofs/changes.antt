-- Lemmas about each change of a tree in a store, and what it leaves.
pub mod Changes
pub mod Kept
pub mod Regrown
pub mod Replaced
pub mod Inserted
pub mod Removed
pub mod Overwritten
pub mod InPlace
pub mod IntoRoom
pub mod OutOf
pub mod Compressed
pub mod Emptied
pub mod PlacedBranches
pub mod IntoLeaf
pub mod IntoHole
pub mod AddedChild
pub mod IntoFull
