pub mod ImageLaws
pub mod CheckRight
