pub mod Texts
pub mod Lines
pub mod TextLaws
pub mod LineLaws
pub mod PartLaws
pub mod ValueLaws
pub mod Claim
pub mod Proof
