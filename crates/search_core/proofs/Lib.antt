pub mod Nodes
pub mod Keeping
pub mod Replacing
pub mod Moving
pub mod Meeting
pub mod Counting
pub mod Boxing
