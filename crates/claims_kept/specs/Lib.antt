-- What kept and lost marks mean for the resolvers, from bytes to bytes.
pub mod Marks
pub mod Values
