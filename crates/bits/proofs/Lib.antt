pub mod Bytes
pub mod Distances
pub mod Lengths
pub mod Metric
pub mod Numbers
pub mod Registers
pub mod Xors
