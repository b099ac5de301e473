pub mod Stops
pub mod Examples
pub mod Runs
pub mod Bench
