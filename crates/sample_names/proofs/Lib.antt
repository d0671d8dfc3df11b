pub mod NameLaws
pub mod SearchLaws
pub mod Examples
