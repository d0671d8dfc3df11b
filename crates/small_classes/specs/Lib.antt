-- The check of a proposal and the proposer, over a machine's rows of bytes. What small_library promises does not speak of rows, so
-- nothing here has to be believed for it.

-- what the promises use
pub mod Check
-- what only the code's inner promises use
pub mod Found
