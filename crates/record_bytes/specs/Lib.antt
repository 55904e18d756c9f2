pub mod RecordBytes
pub mod RecordSteps
pub mod RecordCalls
pub mod RecordBytesLaws
pub mod RecordRefusals
