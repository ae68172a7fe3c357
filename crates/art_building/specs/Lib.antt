-- what is added to a builder
pub mod Pushes
-- a tree that is being built
pub mod Built
-- pairs that are sorted
pub mod Sorted
