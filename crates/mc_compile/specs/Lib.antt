pub mod Accepted
pub mod Code
pub mod Laws
pub mod Tracks
