-- What kept and lost marks mean for the resolvers; then URNs of nodes as bytes, and the list shown as a value.
pub mod Marks
pub mod Uris
pub mod Bytes
pub mod Values
