pub mod Values
pub mod Places
pub mod Ranking
pub mod Picking
