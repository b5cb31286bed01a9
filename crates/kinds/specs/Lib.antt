pub mod SlotsExact
pub mod PassedExact
pub mod Worked
