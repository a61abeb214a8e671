pub mod LineFile
