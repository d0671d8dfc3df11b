-- what a reader has to believe
pub mod Resolve
pub mod Feed
-- what only the inner promises use: resolving by a decoded table
pub mod ByTable
