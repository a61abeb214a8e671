pub mod Calls
pub mod Conversations
pub mod OutcomeLines
pub mod Progress
