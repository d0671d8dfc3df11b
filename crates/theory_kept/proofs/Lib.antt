-- The examples stand first, then the laws of the way back and of paths, those of marks, and the laws of specs/Laws.antt last.
pub mod Examples
pub mod Way
pub mod Paths
pub mod Marks
pub mod Opened
pub mod Kept
pub mod Weight
pub mod ShownWeight
pub mod Complete
pub mod Theorems
