-- what a reader has to believe
pub mod Tables
-- what is claimed of it
pub mod Bytes
pub mod Forms
pub mod Claims
pub mod Accepted
pub mod Capitals
pub mod Limits
-- the examples, and how their tables are written
pub mod Written
pub mod Examples
-- what only the code's inner promises use
pub mod Stages
pub mod Decoded
