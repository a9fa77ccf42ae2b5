pub mod Theory
pub mod Bounded
pub mod Laws
pub mod Parts
pub mod Sequences
pub mod Restricted
pub mod Slots
