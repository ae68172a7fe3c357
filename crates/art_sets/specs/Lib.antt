pub mod SetKeys
pub mod SetAlgebra
