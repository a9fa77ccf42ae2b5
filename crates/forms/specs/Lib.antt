pub mod Form
pub mod Find
