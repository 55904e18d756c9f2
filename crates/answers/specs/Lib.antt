pub mod Printing
pub mod PrintingValues
pub mod PrintingLaws
pub mod Full
pub mod ReadBack
pub mod FromTextToPlan
pub mod ReadBackLaws
pub mod FromTextToPlanProof
