-- The examples stand first, then the laws of each notion of specs/, and those of specs/Laws.antt last.
pub mod Examples
pub mod Leaders
pub mod Refine
pub mod Alike
pub mod Classes
pub mod Reach
pub mod Fits
pub mod Theorems
pub mod Tables
