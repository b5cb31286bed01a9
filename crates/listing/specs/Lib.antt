pub mod Load
pub mod Text
