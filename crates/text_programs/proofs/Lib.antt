-- strings that are ended
mod EndedLemmas
-- the words of a text, and how often each occurs
mod WordTexts
mod Tallies
mod JoinedCounts
mod WordLines
-- counts by frequency, and counts that are added up
mod FrequencyLemmas
mod RowNumbers
mod CountRows
mod SumLemmas
mod MergeLemmas
-- codes with names, and the longest one that a number starts with
mod CodeEntries
mod CodeTableLemmas
-- paths, and requests about them
mod PathPieceLemmas
mod PathSnapshotLemmas
mod RequestLines
mod PathParts
mod PathReplyLemmas
