pub mod Builtins
pub mod Arguments
pub mod Constraints
pub mod Names
pub mod Laws
pub mod Limits
pub mod Reading
pub mod Internals
