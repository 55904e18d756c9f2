pub mod SingleMoves
pub mod Resume
pub mod Claim
pub mod MoveLaws
pub mod PairMoves
pub mod Proof
pub mod ResumeLaws
