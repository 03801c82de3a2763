pub mod Weaker
pub mod Dominance
pub mod Words
pub mod Digest
pub mod Comparing
pub mod Counts
pub mod PartTests
pub mod WordsLeft
