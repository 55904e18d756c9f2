pub mod Lists
pub mod Held
pub mod ListLaws
pub mod GraphLists
