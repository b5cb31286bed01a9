pub mod Cuts
pub mod Digits
pub mod Listed
pub mod Once
