-- The image of a machine, the form, the check, the build, the walk, the machine of an image, and the laws of
-- specs/Positions.antt.
pub mod Joined
pub mod Statuses
pub mod Form
pub mod Stored
pub mod Bytes
pub mod Check
pub mod Build
pub mod Walk
pub mod Read
pub mod Positions
