pub mod Cases
pub mod Lent
pub mod LentLaws
pub mod Faults
