pub mod Handed
pub mod Run
pub mod TakeOut
pub mod Untouched
pub mod Leaves
pub mod Level
