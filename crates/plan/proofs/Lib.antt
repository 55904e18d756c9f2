pub mod OpenIds
pub mod Pairing
pub mod Lines
pub mod Answering
