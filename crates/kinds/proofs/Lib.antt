pub mod SlotWalks
pub mod SlotsExact
pub mod PassedExact
