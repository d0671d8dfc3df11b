pub mod Examples
pub mod PairTable
pub mod PairNodes
pub mod PairStep
pub mod Pairs
pub mod Law
