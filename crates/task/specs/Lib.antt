pub mod Fault
pub mod Graph
pub mod First
pub mod Rules
pub mod Laws
pub mod View
pub mod Vetted
pub mod Example
