pub mod Kinds
pub mod Parts
pub mod Opens
pub mod Inside
pub mod Neighbours
