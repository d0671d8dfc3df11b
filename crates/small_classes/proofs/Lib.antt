pub mod NumberLaws
pub mod FoundLaws
pub mod CheckLaws
