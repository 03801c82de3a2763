pub mod Quotients
pub mod Scaling
pub mod Capping
pub mod Negating
pub mod Opening
pub mod Differing
pub mod Relating
