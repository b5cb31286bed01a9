pub mod Figure
pub mod Price
pub mod Row
pub mod Marked
