-- Proofs of the laws that the impl names. No contract cites them.
pub mod Places
pub mod Passing
pub mod Doing
pub mod SheetLaws
