-- Lemmas about places in a tree, and the paths to them.
pub mod Paths
pub mod Places
pub mod PlaceLaws
pub mod Wholes
pub mod OnWay
pub mod EdgeDescents
pub mod Trails
pub mod InHole
pub mod TrailEnds
