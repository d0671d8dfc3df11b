pub mod NameLaws
pub mod AloneLaws
pub mod PairLaws
pub mod Together
