-- what a reader has to believe, beside the byte rules of the crate value_cursor
pub mod Grammar
-- what is claimed of it
pub mod Claims
pub mod Examples
-- what the promises are equations with; the claims tie it to the grammar
pub mod Value
pub mod Judged
