pub mod Kinds
pub mod Signed
pub mod Capped
pub mod Different
