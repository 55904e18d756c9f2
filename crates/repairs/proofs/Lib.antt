pub mod Dropping
pub mod BothKinds
