pub mod Chars
pub mod Kept
