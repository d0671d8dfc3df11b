pub mod Direct
pub mod Stages
