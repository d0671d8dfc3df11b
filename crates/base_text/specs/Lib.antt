-- what a reader has to believe
pub mod Text
-- what is claimed of it
pub mod LetterCase
-- what only the code's inner promises use: how texts are compared
pub mod Words
