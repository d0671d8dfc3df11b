-- what a reader has to believe
pub mod Names
pub mod Urn
-- what is claimed of it
pub mod Claims
-- what only the code's inner promises use: labels and names over which bytes may stand in them
pub mod Labels
