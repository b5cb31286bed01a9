pub mod Agree
pub mod Levels
pub mod Lists
pub mod Places
pub mod Pricing
pub mod Steps
