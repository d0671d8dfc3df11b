-- what a reader has to believe
pub mod Resolve
-- what is claimed of it
pub mod Claims
