pub mod Comparing
pub mod Replacing
pub mod Applying
