pub mod Fault
pub mod Line
pub mod Format
pub mod Cut
pub mod Fields
