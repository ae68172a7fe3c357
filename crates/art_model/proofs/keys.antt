-- Lemmas about keys: their order, and what two of them share.
pub mod Keys
pub mod KeyLaws
pub mod Fronts
pub mod Texts
