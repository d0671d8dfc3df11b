-- The laws of tests and numbers stand first, then those of each file of specs/.
pub mod Bools
pub mod Numbers
pub mod Lists
pub mod Tabulated
pub mod Tests
pub mod Below
pub mod Cuts
pub mod Over
pub mod Each
pub mod Filled
pub mod Search
pub mod Chains
