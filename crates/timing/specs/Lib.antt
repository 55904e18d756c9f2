pub mod Rounds
pub mod RoundLaws
