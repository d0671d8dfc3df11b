pub mod ByteLaws
pub mod Characters
mod ClassTable
pub mod Lands
pub mod PartLaws
pub mod PassLaws
pub mod QuoteLaws
pub mod ReadingLaws
pub mod RunLaws
mod Table
pub mod WalkLaws
pub mod WhiteLaws
