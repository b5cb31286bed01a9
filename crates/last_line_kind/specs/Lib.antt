pub mod LastLine
pub mod Laws
