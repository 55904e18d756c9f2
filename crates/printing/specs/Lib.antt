pub mod Printed
pub mod Stored
pub mod Lengths
pub mod LineTexts
pub mod LineLoops
pub mod FrameNumbers
pub mod Calls
pub mod CallLaws
