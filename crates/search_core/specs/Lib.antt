pub mod Paths
pub mod Sizes
pub mod Boxes
pub mod Trees
pub mod Tasks
pub mod Places
pub mod Locals
