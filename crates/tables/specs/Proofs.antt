-- Proofs of the laws that the impl names. No contract cites them.
pub mod Values
pub mod Takes
pub mod Words
pub mod Changes
