-- what a reader has to believe
pub mod Built
pub mod Matching
-- what is claimed of it
pub mod Claims
-- the examples
pub mod MatchExamples
