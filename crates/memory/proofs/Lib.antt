pub mod Writing
pub mod Appending
pub mod OneRepository
