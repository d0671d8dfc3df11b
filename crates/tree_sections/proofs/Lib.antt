pub mod TreeReadings
