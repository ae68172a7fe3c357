-- a tree that is being built
pub mod Built
-- keys of a type that are added
pub mod KeysAfter
-- sorted pairs that are put
pub mod Unsorted
pub mod Lasts
