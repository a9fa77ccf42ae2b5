-- Proofs of the laws that the impl names. No contract cites them.
pub mod Places
pub mod Steps
pub mod Exchanges
pub mod Filling
pub mod Lawful
