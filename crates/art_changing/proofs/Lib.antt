pub mod ViewsOfPairs
pub mod Enough
pub mod MapPuts
pub mod Takings
pub mod Items
pub mod PartsOut
