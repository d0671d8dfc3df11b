-- Which marks a signal table keeps, and which signals can ring: without bytes and without limits, for any number of
-- categories, signals, parts and URNs.

-- what a reader has to believe
pub mod Kept
-- what is claimed of it: a decision over the signals alone, with a shortest list that shows a loss
pub mod Way
pub mod Decision
pub mod Weight
pub mod Laws
pub mod Examples
