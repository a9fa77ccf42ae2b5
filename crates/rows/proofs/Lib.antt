pub mod Copying
pub mod Carrying
pub mod NextCarried
pub mod Passing
pub mod Replaying
pub mod Taking
