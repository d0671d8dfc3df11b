-- what a reader has to believe
pub mod Bytes
-- what is claimed of it
pub mod Claims
pub mod Characters
-- what the promises are equations with; the claims of the crate value_reader tie it to the grammar
pub mod Walk
pub mod Parts
pub mod Reading
pub mod Pass
