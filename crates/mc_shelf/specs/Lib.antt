pub mod Failing
pub mod Kept
pub mod Laws
pub mod Outside
