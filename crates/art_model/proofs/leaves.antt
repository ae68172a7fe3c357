-- Lemmas about leaves in their order, and the links between them.
pub mod Links
pub mod Segments
pub mod OtherNames
pub mod Renamed
pub mod LeavesFound
pub mod LeafEnds
pub mod LeafChild
pub mod Leaves
pub mod Chains
pub mod Taken
pub mod Placed
