-- the last element that passes a test
mod LastPassing
-- keys in order
mod KeyOrder
-- values of networks and of keys
mod ValueLemmas
-- the last network up to another one, and the longest one of an address
mod LongestLemmas
-- what calls return
mod TreeReplies
