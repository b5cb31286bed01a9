pub mod Categories
pub mod Levels
pub mod Passes
pub mod Worth
