pub mod Loading
pub mod Solving
pub mod Serving
pub mod Endings
