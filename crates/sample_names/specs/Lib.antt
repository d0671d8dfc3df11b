-- what a reader has to believe
pub mod FirstFree
-- what is claimed of it
pub mod Claims
-- what only the code's inner promises use
pub mod Held
