pub mod Pieces
pub mod Cuts
pub mod Outcomes
pub mod Sessions
pub mod Feeds
mod Worked
pub mod Sends
pub mod Bounds
