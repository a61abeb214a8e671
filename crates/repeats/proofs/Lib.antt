pub mod Kept
pub mod Marked
pub mod Pairings
pub mod Recorded
mod Rows
pub mod TwinFeeding
pub mod TwinGrowing
pub mod TwinPieces
pub mod TwinSteps
pub mod Twins
pub mod TwoStretches
