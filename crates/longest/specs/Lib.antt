pub mod Charge
pub mod Search
pub mod Nine
pub mod Claim
pub mod Sizes
