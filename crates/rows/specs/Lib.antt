pub mod Pass
pub mod Replay
pub mod TakeOut
