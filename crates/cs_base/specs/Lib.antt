pub mod Causes
pub mod Chosen
pub mod Taken
pub mod Memory
