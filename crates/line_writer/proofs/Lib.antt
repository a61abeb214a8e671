pub mod Appending
pub mod LineWriting
pub mod Reading
pub mod SampleBytes
pub mod SampleCount
