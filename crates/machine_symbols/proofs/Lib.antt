pub mod SymbolLaws
pub mod StepLaws
pub mod SymbolsRight
pub mod StepRight
pub mod NumberRight
