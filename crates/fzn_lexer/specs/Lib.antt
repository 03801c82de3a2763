pub mod Bytes
pub mod Spelling
pub mod Spots
pub mod Tokens
pub mod Placed
pub mod Scan
pub mod Passes
