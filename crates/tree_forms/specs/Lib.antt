pub mod Bytes
pub mod Meaning
pub mod Refusals
pub mod Conversion
pub mod Claims
pub mod Examples
