pub mod ChangesAgree
pub mod Freed
pub mod FreedTrees
pub mod OneTree
pub mod Cloning
pub mod Copying
pub mod Cloned
