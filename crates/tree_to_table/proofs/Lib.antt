pub mod Ancestry
