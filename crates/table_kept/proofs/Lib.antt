-- One mark, the search, the way back; then the search over arrays that hold a table.
pub mod MarkLaws
pub mod SearchLaws
pub mod WayLaws
pub mod Right
-- The answers, by the arrays of a table and by its bytes; the claims of specs/Claims.antt last.
pub mod AnswerLaws
pub mod ArraysRight
pub mod BytesRight
pub mod Claims
