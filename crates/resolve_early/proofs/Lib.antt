pub mod FrontLaws
pub mod Moves
pub mod SettledLaws
pub mod SettledRight
pub mod RunLaws
pub mod RunRight
pub mod AnswerLaws
pub mod Claims
