pub mod Placed
pub mod Walks
