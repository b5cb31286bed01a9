pub mod Counted
pub mod Shown
pub mod Bound
pub mod Loads
