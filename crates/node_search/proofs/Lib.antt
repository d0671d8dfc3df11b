pub mod TextLaws
pub mod MarkLaws
pub mod UseLaws
pub mod UseRight
