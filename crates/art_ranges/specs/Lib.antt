pub mod Cuts
pub mod PartReadings
pub mod TextWays
pub mod FoundTexts
pub mod ShortTexts
