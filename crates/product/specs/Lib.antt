pub mod Controller
pub mod Telling
pub mod Examples
