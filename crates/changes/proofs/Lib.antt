pub mod Locking
