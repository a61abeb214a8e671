pub mod Codeword
pub mod Distance
pub mod Division
pub mod Fix
pub mod Twin
pub mod Word
