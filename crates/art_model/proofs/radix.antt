-- Lemmas of radix trees, and the one that a map has.
pub mod Groups
pub mod Rebuild
pub mod Radix
pub mod Build
pub mod TreeLaws
pub mod Parts
pub mod Shapes
pub mod Copies
