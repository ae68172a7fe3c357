pub mod SetLaws
pub mod SetMembers
pub mod SetOrders
pub mod SetSides
pub mod SetParts
pub mod ClonedKeys
pub mod AddedKeys
