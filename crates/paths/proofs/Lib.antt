pub mod Noting
pub mod Leading
pub mod Ends
