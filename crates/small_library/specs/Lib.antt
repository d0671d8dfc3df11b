-- Smaller machines from bytes: the check of a proposal, the writer and the proposer.

-- what a reader has to believe
pub mod Smaller
-- what is claimed of it
pub mod Claims
-- what only the code's inner promises use
pub mod Rows
