pub mod Coding
pub mod Faults
pub mod Fits
pub mod Groups
pub mod Line
pub mod Page
pub mod Texts
pub mod FitTest
