pub mod Unwanted
