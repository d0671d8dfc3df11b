-- what a reader has to believe
pub mod Uses
-- what only the code's inner promises use: how arrays hold names and nodes, and the search over them
pub mod Arrays
pub mod Search
