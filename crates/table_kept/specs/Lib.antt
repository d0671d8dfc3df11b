-- what a reader has to believe
pub mod Answers
-- what is claimed of it
pub mod Claims
-- what only the code's inner promises use: the search on numbers of nodes and signals, and what its lists hold
pub mod Marks
pub mod Held
pub mod Ready
