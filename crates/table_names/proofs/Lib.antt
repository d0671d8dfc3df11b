pub mod NameLaws
pub mod Indexing
pub mod RoomLaws
