pub mod Blocks
pub mod Image
pub mod Format
pub mod Faults
pub mod Fronts
pub mod Laws
pub mod Steps
