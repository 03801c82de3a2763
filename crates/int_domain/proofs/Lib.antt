pub mod Members
pub mod Words
pub mod Marks
pub mod Narrowed
pub mod Runs
pub mod Facts
