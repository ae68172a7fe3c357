pub mod Prefixes
pub mod Decoded
pub mod Ended
pub mod Escapes
pub mod KeptBytes
-- the proofs of the laws, which the impls of the types cite
pub mod FixedLaws
pub mod EndedLaws
pub mod EscapeLaws
pub mod Numbers
pub mod NumberLaws
pub mod Joins
pub mod JoinLaws
pub mod InjectiveLaws
pub mod HashLaws
