pub mod PlacedOutside
