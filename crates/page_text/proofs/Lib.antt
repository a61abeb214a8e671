pub mod Back
pub mod Codings
pub mod Groups
pub mod Judged
pub mod RunTogether
mod Rows
pub mod Texts
pub mod FitTest
