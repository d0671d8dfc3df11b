-- what a reader has to believe
pub mod Sample
-- what is claimed of it
pub mod Claims
-- what only the code's inner promises use
pub mod Written
