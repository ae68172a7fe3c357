pub mod HintedLends
pub mod HintedTexts
