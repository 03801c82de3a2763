pub mod ArgumentsRead
pub mod Keeping
pub mod Pairs
pub mod Meanings
