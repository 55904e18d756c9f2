pub mod Listing
pub mod Reaches
