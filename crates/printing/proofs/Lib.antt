pub mod AnswerPieces
pub mod PairPieces
