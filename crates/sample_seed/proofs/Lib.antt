pub mod Product
pub mod Examples
