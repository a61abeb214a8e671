pub mod Replies
pub mod Reports
pub mod Session
pub mod State
pub mod StateView
pub mod Verdict
