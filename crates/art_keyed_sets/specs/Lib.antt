pub mod SetRefusals
pub mod SetClones
