-- What only the code's inner promises use: the step on numbers. Its laws say that it is the theory's.

pub mod Rows
pub mod Step
pub mod Tries
pub mod StatusByte
