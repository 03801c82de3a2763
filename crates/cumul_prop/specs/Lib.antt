pub mod Kinds
pub mod Parts
pub mod Limits
pub mod Narrowing
