pub mod Laying
pub mod Fields
pub mod Parts
pub mod Bound
pub mod Outcome
