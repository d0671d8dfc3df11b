pub mod Tree
pub mod Held
