pub mod Refusals
pub mod State
pub mod Held
pub mod Calls
pub mod Reached
pub mod Promise
