pub mod RowLaws
pub mod RunRight
pub mod AnswerLaws
pub mod BitLaws
pub mod Claims
