pub mod Scan
pub mod Tests
pub mod Ungrown
