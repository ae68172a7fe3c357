mod EntryLemmas
mod ReadLemmas
mod ServeLemmas
mod AheadLemmas
mod CheckLemmas
mod JsonLemmas
mod ReplyExamples
