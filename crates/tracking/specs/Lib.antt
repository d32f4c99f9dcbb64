pub mod Runs
pub mod Tracking
pub mod Follow
pub mod Compose
pub mod Simulation
