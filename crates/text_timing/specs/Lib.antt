pub mod TextRounds
pub mod TextRoundLaws
