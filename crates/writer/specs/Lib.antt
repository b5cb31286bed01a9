pub mod Wrote
pub mod Lays
pub mod Parts
