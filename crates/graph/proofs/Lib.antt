pub mod ArrayLengths
pub mod Building
pub mod FormCases
