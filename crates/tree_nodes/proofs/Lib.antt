pub mod Scanning
pub mod Tests
pub mod ByArrays
pub mod Reasons
pub mod Ranges
