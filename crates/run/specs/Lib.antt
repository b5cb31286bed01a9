pub mod Run
pub mod Open
