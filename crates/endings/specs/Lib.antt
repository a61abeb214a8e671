pub mod Statuses
pub mod Talk
pub mod Wrote
