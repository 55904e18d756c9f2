pub mod Change
pub mod Onward
pub mod Passing
