pub mod Kind
pub mod Laws
pub mod Settling
pub mod Meaning
pub mod Space
