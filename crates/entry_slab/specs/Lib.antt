pub mod Entries
pub mod Contents
pub mod Readings
pub mod Listed
pub mod Slots
