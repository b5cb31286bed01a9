pub mod View
pub mod Outcome
