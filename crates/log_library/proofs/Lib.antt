pub mod ReadLaws
pub mod JudgeLaws
pub mod WrittenLaws
pub mod Claims
