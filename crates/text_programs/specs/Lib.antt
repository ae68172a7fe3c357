-- the words of a text, and how often each occurs
pub mod Words
pub mod WordCounts
pub mod Joined
pub mod Frequency
pub mod Rows
pub mod Sums
pub mod Merged
-- codes with names, and the longest one that a number starts with
pub mod Entries
pub mod CodeRows
pub mod CodeTables
pub mod CodeReplies
-- paths, and requests about them
pub mod Paths
pub mod PathPieces
pub mod PathSnapshots
pub mod Requests
pub mod PathReplies
