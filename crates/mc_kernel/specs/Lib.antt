pub mod Kernel
pub mod Laws
pub mod Memory
pub mod Words
