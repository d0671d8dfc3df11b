pub mod FitLaws
pub mod StateLaws
pub mod RecordLaws
