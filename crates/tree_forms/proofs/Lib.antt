pub mod Writing
pub mod Texts
pub mod Growing
pub mod Sound
pub mod Theorems
pub mod Examples
pub mod Exactly
