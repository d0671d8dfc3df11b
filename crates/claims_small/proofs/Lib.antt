pub mod SmallDemand
