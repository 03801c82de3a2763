mod Offered
mod Answering
pub mod Starting
