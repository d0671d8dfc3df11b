-- what a reader has to believe
pub mod Answers
-- what only the code's inner promises use
pub mod Run
