pub mod Kinds
pub mod Places
pub mod Found
pub mod Between
