pub mod Marking
pub mod Ranking
