-- what a reader has to believe
pub mod Built
-- what only the code's inner promises use: the states by their discovery
pub mod States
