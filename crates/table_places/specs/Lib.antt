-- what a reader has to believe
pub mod Verdict
-- what only the code's inner promises use
pub mod Slots
pub mod Filled
