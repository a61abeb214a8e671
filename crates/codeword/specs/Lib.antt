pub mod Capcodes
pub mod Functions
pub mod Kinds
pub mod Runs
pub mod Words
