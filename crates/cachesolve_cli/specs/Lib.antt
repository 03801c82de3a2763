pub mod Ways
pub mod Headline
pub mod Stages
pub mod Words
