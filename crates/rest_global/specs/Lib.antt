pub mod Renamed
pub mod Projection
pub mod Projected
pub mod Making
