pub mod Refusal
pub mod Loading
