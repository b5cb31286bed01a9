pub mod Counts
pub mod Sounds
pub mod Gates
pub mod Filling
pub mod Progress
pub mod Rounds
