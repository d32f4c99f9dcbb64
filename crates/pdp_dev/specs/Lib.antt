pub mod Register
pub mod Devices
