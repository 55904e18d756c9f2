pub mod Ids
pub mod IdLaws
pub mod PutIds
