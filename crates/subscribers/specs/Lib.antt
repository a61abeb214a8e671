pub mod Form
pub mod Seen
pub mod Parts
pub mod Placed
pub mod Entries
pub mod Settings
pub mod Directory
pub mod Made
