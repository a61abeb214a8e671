pub mod Characters
pub mod Exists
pub mod First
pub mod Fronts
pub mod Grows
pub mod LoneBlocks
pub mod OneReading
pub mod Parts
pub mod PartsOf
mod Rows
pub mod Values
pub mod WholeBlocks
