pub mod FieldLaws
pub mod FrameLaws
pub mod HeadLaws
pub mod NanLaws
