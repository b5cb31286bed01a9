pub mod Fetches
pub mod Tracks
pub mod Exactly
pub mod InRange
