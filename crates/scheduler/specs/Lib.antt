pub mod Slots
pub mod Plan
pub mod Laws
pub mod Said
pub mod Sendings
pub mod Pooled
