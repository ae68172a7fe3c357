pub mod KeptKeys
pub mod SetClones
