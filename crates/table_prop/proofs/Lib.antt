pub mod Choosing
pub mod Finding
pub mod Supporting
pub mod Marking
