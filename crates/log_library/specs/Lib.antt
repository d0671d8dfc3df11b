-- what a reader has to believe
pub mod Log
pub mod Verdict
-- what is claimed of it, and the bytes of a log as its writer has them
pub mod Written
pub mod Claims
