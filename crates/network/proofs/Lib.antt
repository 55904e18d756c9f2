pub mod ArrayLengths
