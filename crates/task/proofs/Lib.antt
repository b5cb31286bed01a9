pub mod Around
pub mod Finite
pub mod Instance
pub mod Laws
pub mod Order
pub mod Ranged
pub mod Tried
