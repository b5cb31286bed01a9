pub mod Letters
pub mod Category
pub mod Costs
pub mod Meaning
