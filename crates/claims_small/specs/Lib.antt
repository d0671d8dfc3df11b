-- what is claimed of small images; it has no definitions of its own
pub mod SmallDemand
