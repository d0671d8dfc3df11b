-- A smaller machine as bytes.

-- what a reader has to believe
pub mod Small
pub mod Numbers
-- what is claimed of it
pub mod Claims
