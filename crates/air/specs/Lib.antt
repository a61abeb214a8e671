pub mod Air
pub mod Near
pub mod Sends
pub mod Left
pub mod Readers
