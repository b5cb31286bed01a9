pub mod View
pub mod Walked
