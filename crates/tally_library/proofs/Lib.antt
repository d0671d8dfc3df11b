pub mod ListLaws
pub mod PlusLaws
pub mod PlainLaws
pub mod JudgeLaws
pub mod TallyLaws
pub mod MonthLaws
pub mod Env
pub mod Numbers
