pub mod Refusals
pub mod Runs
pub mod Pieces
pub mod Closes
pub mod Numerals
