pub mod SlotTables
pub mod Stocked
pub mod ReadEntries
