pub mod Operations
pub mod OperationValues
pub mod OperationLines
pub mod OperationAnswers
