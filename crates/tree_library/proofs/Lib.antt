pub mod TreeNumbers
pub mod Order
