pub mod LoopLaws
pub mod StoreLaws
pub mod LeftLaws
pub mod BodyLaws
pub mod TextLaws
