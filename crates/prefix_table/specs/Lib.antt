-- addresses and networks as numbers
pub mod Networks
-- steps from network to network
pub mod Steps
-- where networks start
pub mod Starts
-- networks in order, each with the place of its value
pub mod Rows
-- what else they have
pub mod Rests
-- these in columns
pub mod Columns
-- rows in order
pub mod Sorting
-- values in the order of networks
pub mod Arranging
-- tables as rows and values
pub mod Tables
-- parts of tables
pub mod Parts
-- networks with values, and which of them an address gets
pub mod Entries
