pub mod Tabu
pub mod TabuValues
pub mod Toggles
pub mod TabuListLaws
pub mod TabuMoves
pub mod TabuLaws
pub mod TabuSettles
pub mod TabuRounds
