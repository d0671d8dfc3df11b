-- What only the code's inner promises use: symbols by their numbers.

pub mod Listed
pub mod Steps
