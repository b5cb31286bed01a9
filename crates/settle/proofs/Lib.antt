pub mod Steps
pub mod Accepts
