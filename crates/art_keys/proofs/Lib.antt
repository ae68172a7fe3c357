mod Backs
mod Beginnings
pub mod EndedTests
mod Rooms
mod TextWrites
