-- The small image of a proposal, written to a lent buffer.

-- what a reader has to believe
pub mod Answer
-- what the promises use over a machine's rows of bytes, of which small_library's promises do not speak
pub mod Written
-- what only the code's inner promises use
pub mod Rows
