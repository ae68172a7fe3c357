-- networks with values, as keys of trees
pub mod Routes
