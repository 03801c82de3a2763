pub mod Passing
pub mod Limiting
pub mod Meeting
pub mod Ending
pub mod Owing
