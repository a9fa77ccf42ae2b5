pub mod Block
pub mod Gather
