pub mod Report
pub mod Ring
