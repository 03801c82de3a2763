pub mod Filters
pub mod Clauses
pub mod Runs
pub mod Members
