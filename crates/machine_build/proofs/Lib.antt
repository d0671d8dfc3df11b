pub mod KeptLaws
pub mod TurnLaws
pub mod DiscoverLaws
pub mod WriteLaws
pub mod StatesRight
pub mod BuildRight
