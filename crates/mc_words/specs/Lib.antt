pub mod Settings
pub mod Options
pub mod Commands
pub mod Said
pub mod Rows
pub mod Arguments
