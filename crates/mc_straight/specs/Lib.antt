pub mod Alone
pub mod Form
pub mod Laws
