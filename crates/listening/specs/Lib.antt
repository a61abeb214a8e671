pub mod HeardFile
pub mod HeardLine
pub mod Listening
pub mod Noise
pub mod PageLines
pub mod Table
pub mod TwinLines
