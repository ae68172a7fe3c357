-- keys, maps of pairs, and their changes
pub mod KeyLaws
pub mod Pairs
pub mod Parts
pub mod Texts
pub mod MapLaws
pub mod Changes
pub mod Clones
-- the tree of a map, its places and its paths
pub mod Trees
pub mod Radix
pub mod TreeLaws
pub mod Heights
pub mod Places
pub mod PlaceLaws
pub mod Paths
-- trees under the names of a store
pub mod Layouts
pub mod Segments
pub mod ByCases
pub mod Stores
pub mod Canonical
pub mod StoreLaws
pub mod Roots
pub mod Lookups
-- what changes a store, and what a change keeps and touches and takes from a promise
pub mod Writes
pub mod Gains
pub mod Kept
pub mod Apart
pub mod Footprints
pub mod Promises
-- the faults of a store
pub mod Trails
pub mod Faults
-- the words that proofs cite most
pub mod Prelude
-- examples
pub mod Examples
pub mod FaultExamples
pub mod NameExamples
