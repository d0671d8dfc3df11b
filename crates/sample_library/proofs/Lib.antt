pub mod TextLaws
pub mod TableTexts
pub mod ValueLaws
pub mod ChoiceLaws
pub mod WriteLaws
pub mod WholeValue
pub mod Claims
pub mod Examples
