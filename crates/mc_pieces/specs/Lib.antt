pub mod Constructs
pub mod Walks
pub mod Naming
