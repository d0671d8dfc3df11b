pub mod StoredLaws
pub mod TestLaws
pub mod RoundLaws
pub mod Ranges
