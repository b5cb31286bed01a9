pub mod Findings
pub mod Examined
