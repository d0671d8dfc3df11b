-- what a reader has to believe
pub mod Numbers
pub mod Refusals
