-- the steps down a path, and a key after another one
pub mod EdgeSteps
pub mod NextKeys
-- the right edge of a tree
pub mod Edges
