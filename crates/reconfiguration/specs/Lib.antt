pub mod Solve
pub mod AnswersHavePlans
pub mod SolveLaws
pub mod AnswersHaveLosses
