pub mod Kinds
pub mod Parts
pub mod Failing
pub mod Values
pub mod Judging
pub mod Denying
