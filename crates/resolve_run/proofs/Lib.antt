pub mod TakenLaws
pub mod RunLaws
pub mod FoldLaws
pub mod AnswerLaws
pub mod DirectLaws
