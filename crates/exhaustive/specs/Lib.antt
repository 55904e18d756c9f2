pub mod Exhaustive
pub mod ExhaustiveValues
pub mod AsExhaustive
pub mod ExhaustiveLaws
pub mod ExhaustiveSettles
pub mod ExhaustiveMasks
pub mod ExhaustiveTies
pub mod ExhaustiveTrials
