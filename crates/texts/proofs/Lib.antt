pub mod Writing
pub mod TextLines
