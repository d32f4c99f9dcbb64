pub mod Quiet
pub mod Simulation
pub mod Whole
pub mod Stages
