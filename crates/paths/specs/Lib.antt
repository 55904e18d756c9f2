pub mod Ways
pub mod PathLists
