pub mod Products
pub mod Passing
pub mod Multiplying
pub mod Bounding
pub mod Choosing
pub mod Sizing
pub mod Dividing
