pub mod Prefixes
pub mod Ancestors
pub mod NodeArrays
