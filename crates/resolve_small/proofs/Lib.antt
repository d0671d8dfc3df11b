pub mod FormLaws
pub mod WalkLaws
pub mod Claims
