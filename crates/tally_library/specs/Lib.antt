-- what a reader has to believe
pub mod Tally
pub mod Month
pub mod Numbers
-- what only the code's inner promises use
pub mod Steps
