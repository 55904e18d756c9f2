pub mod BaseLaws
