pub mod Kinds
pub mod LineAnswers
pub mod JudgementLaws
pub mod FramedLaws
