-- Lists, tests and numbers: what a reader has to believe. Nothing here is of alert URNs, tables or machines.
pub mod Lists
pub mod Tests
pub mod Cuts
pub mod Numbers
pub mod Search
