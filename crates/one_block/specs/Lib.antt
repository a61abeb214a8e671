pub mod AlphaPage
pub mod Input
pub mod LoneBlock
pub mod Sends
pub mod Silent
pub mod OneRow
