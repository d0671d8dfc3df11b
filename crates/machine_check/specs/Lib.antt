-- What only the code's inner promises use: the tests of an image.

pub mod Checks
