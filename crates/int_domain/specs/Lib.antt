pub mod Values
pub mod Narrowing
pub mod Bits
pub mod Kept
