pub mod LoneBlocks
pub mod OnePages
pub mod ReadTexts
pub mod Sendings
pub mod Fronts
pub mod OneAnswer
