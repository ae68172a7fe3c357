-- Lemmas about what a store has, and the canonical roots in it.
pub mod Shown
pub mod Names
pub mod Stores
pub mod Canonical
pub mod Views
pub mod Heights
pub mod Touches
pub mod Without
pub mod Gains
pub mod Lessened
pub mod Slots
pub mod Writes
pub mod ByCases
pub mod StoreLaws
pub mod Apart
pub mod Faultless
