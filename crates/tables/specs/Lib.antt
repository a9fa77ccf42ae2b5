pub mod Table
pub mod Proofs
