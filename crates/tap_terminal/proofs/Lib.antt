pub mod Reports
pub mod Sessions
pub mod Verdicts
pub mod Feeds
pub mod Cells
pub mod Counted
pub mod Fronts
mod Rows
