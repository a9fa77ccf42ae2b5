pub mod Sides
pub mod Proofs
