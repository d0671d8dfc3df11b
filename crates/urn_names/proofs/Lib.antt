pub mod Runs
pub mod Turns
pub mod Cases
pub mod Capitals
pub mod Labels
