pub mod Kinds
pub mod Among
pub mod Marks
pub mod Rows
