pub mod Forms
pub mod Numbers
pub mod Rows
pub mod Sweep
pub mod Tasks
