pub mod Sheets
pub mod Proofs
