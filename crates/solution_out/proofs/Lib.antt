pub mod Writing
pub mod Excerpts
