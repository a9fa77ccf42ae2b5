pub mod Named
pub mod History
pub mod Runs
pub mod Agreement
pub mod Flat
pub mod Proofs
