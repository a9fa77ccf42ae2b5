pub mod Line
pub mod Note
pub mod Rule
