pub mod OwnLoops
pub mod NewPositions
pub mod DroppedLaws
pub mod OwnLoopLaws
pub mod Claim
pub mod Proof
