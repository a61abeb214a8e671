pub mod Frames
pub mod Pieces
pub mod Unique
pub mod Lays
pub mod Room
pub mod Schedules
pub mod Rest
pub mod Said
pub mod Live
pub mod Left
pub mod Giving
pub mod Cases
pub mod Given
pub mod Ended
pub mod Standing
mod Rows
