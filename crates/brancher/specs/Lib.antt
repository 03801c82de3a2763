pub mod Branching
pub mod Making
