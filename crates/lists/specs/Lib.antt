pub mod Hunk
pub mod Proofs
