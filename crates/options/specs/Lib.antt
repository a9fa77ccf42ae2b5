pub mod Parts
pub mod Fitting
