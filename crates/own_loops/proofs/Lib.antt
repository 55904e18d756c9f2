pub mod Keeping
pub mod Placing
