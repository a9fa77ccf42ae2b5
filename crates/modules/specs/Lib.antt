pub mod Modules
pub mod Proofs
