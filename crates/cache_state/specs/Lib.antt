pub mod Cache
pub mod Fetching
pub mod Meaning
