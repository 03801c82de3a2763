pub mod Kinds
pub mod Parts
pub mod Passes
pub mod Corners
pub mod Extremes
pub mod Sizes
pub mod Division
