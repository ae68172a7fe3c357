-- how lines write networks
pub mod Written
-- routes, and the longest one that covers an address
pub mod Routes
-- lines as places in a text
pub mod Sources
-- why there is no table
pub mod Faults
-- what is written in reply to addresses
pub mod Replies
-- where replies are found
pub mod LookUps
-- what a table has of the entries of a text
pub mod RouteTables
