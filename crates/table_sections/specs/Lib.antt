-- what a reader has to believe
pub mod Stored
-- what only the code's inner promises use
pub mod Held
