pub mod Repairs
pub mod RepairValues
pub mod DroppedLines
pub mod RepairLaws
pub mod PrintedLaws
pub mod Claim
pub mod Proof
