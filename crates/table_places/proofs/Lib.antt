pub mod SlotLaws
pub mod Flat
pub mod RowLaws
pub mod FilledLaws
pub mod Placing
