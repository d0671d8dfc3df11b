pub mod Padding
pub mod Ranges
pub mod Readings
pub mod FaultLaws
pub mod SectionLaws
