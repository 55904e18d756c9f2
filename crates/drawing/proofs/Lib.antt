pub mod Placing
pub mod DrawnEnds
