pub mod LastNames
pub mod Numbering
