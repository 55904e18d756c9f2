pub mod Live
pub mod Configuration
pub mod LiveLaws
pub mod Switches
pub mod Listed
pub mod LiveBytes
pub mod OpenCounts
pub mod BaseLaws
