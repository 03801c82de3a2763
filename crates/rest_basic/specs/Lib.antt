pub mod Forms
pub mod Equivalence
pub mod Negating
pub mod Gathered
