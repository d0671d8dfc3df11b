pub mod Urns
