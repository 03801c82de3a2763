pub mod Texts
pub mod Journals
pub mod Buffers
pub mod Readings
pub mod Steps
