pub mod Right
pub mod Verdict
pub mod Passes
pub mod Kept
