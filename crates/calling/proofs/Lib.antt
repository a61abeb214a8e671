pub mod Arms
pub mod CallEnds
pub mod Calling
pub mod CallsUp
pub mod Moving
pub mod PageArms
pub mod PutOutcomes
pub mod SpokenTalks
