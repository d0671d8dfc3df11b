-- what a reader has to believe
pub mod Record
-- what only the code's inner promises use
pub mod Coded
