pub mod CommandLines
pub mod ListedCapcodes
pub mod ListedReceivers
pub mod Saying
pub mod Pairs
pub mod OneCommands
