pub mod Shows
pub mod Stats
pub mod Sums
pub mod Outcomes
pub mod Writes
pub mod Refusals
