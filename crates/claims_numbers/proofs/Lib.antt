pub mod NumberExamples
pub mod Numbers
