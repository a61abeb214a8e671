pub mod NearAir
pub mod NearKinds
pub mod NearPages
pub mod NearStretches
pub mod NearWords
