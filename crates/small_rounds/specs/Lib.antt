-- The rounds that find which states behave alike, over a machine's rows of bytes. What small_library promises does not speak of
-- rows, so nothing here has to be believed for it.

-- what the promises use
pub mod Stored
pub mod Rows
