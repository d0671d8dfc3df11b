pub mod TableLaws
pub mod PlainLaws
pub mod ByTableLaws
pub mod ReadLaws
