pub mod Scanning
pub mod Tidying
pub mod Serving
pub mod Scans
pub mod Standings
