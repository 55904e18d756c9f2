pub mod Moving
pub mod Answering
