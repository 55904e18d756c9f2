pub mod Hex
pub mod Frames
pub mod Lines
pub mod HexLaws
pub mod JudgeLaws
pub mod CutLaws
pub mod FirstLine
pub mod FirstLineLaws
