pub mod Counts
pub mod FaultLaws
pub mod CheckLaws
pub mod WholeCheck
