pub mod Commands
pub mod Meant
pub mod ReadWords
pub mod Pairs
