pub mod Expanded
pub mod Laws
pub mod Lines
pub mod Pieces
pub mod Templates
