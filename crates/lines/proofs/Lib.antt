pub mod DigitLaws
pub mod LineEndLaws
