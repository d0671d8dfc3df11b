-- Alert URNs as paths, signal tables, direct resolution, and the machine that does the same: without bytes and
-- without limits, for any number of categories, signals, parts, symbols and states.

-- what a reader has to believe
pub mod Names
pub mod Table
pub mod Nodes
pub mod Direct
pub mod Says
pub mod Symbols
pub mod Machine
pub mod Discovery
pub mod Build
pub mod Settled
pub mod Tries
pub mod Available
-- what is claimed of it, and what the definitions mean
pub mod Laws
pub mod Claim
pub mod Meaning
pub mod MachineMeaning
pub mod Examples
-- what only the code's inner promises use
pub mod NodeStep
