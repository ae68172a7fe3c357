-- the entries of a table's lines
pub mod Entries
-- tables that are read from lines, and that answer lines
pub mod LineTables
pub mod SavedTables
-- what is written about the lines of an input
pub mod Outcomes
pub mod Messages
pub mod Checked
pub mod Json
pub mod Served
pub mod Gathered
-- how much of a file was read
pub mod Progress
-- writers that remember failures
pub mod Watching
