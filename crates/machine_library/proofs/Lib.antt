pub mod TableRight
pub mod FormRight
pub mod MatchLaws
pub mod Claims
pub mod Exactly
pub mod MatchExamples
