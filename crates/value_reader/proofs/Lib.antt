pub mod Agree
pub mod Complete
pub mod EntryLaws
pub mod Examples
mod JudgedLaws
mod Place
pub mod Sound
pub mod Unfolded
pub mod ValueLaws
