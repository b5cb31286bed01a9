pub mod Hits
pub mod Instances
pub mod Small
