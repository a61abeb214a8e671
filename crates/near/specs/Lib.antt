pub mod Clean
pub mod NearAir
