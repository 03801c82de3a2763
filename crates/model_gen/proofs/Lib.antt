pub mod Drawing
pub mod Terms
pub mod Fitting
