pub mod Directly
pub mod Filling
pub mod Measures
pub mod Composed
