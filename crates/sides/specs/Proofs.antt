-- Proofs of the laws that the impl names. No contract cites them.
pub mod SideLaws
