pub mod Carried
pub mod Fields
pub mod Known
pub mod Runs
pub mod Said
