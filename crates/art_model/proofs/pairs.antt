-- Lemmas about maps as sorted lists of pairs.
pub mod MapLaws
pub mod Between
pub mod PutOver
pub mod Puts
pub mod TextLaws
