pub mod Resolving
pub mod Supplying
