pub mod Admits
pub mod Changes
pub mod Questions
pub mod Walked
