pub mod Along
pub mod Counting
pub mod Entering
pub mod Expanding
pub mod Turning
