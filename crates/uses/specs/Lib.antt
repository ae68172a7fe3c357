pub mod Accounts
pub mod Longest
pub mod Inventory
pub mod Leases
pub mod Events
pub mod Tally
pub mod Sessions
