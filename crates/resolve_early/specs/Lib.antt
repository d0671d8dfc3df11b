-- what a reader has to believe
pub mod FirstEntries
pub mod Early
-- what is claimed of it
pub mod Claims
-- what only the code's inner promises use
pub mod SettledBy
pub mod Run
