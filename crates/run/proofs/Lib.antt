pub mod Along
pub mod Missed
pub mod Counting
pub mod Entering
