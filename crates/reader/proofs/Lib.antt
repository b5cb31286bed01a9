pub mod Singles
pub mod Bodies
pub mod Passing
pub mod Lists
pub mod Whole
pub mod Once
