pub mod Cells
pub mod Chain
pub mod Layout
pub mod Pool
pub mod Region
pub mod Gains
