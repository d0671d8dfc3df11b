pub mod Fields
pub mod Turns
pub mod Cases
pub mod LetterCase
