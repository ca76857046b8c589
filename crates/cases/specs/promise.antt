pub mod Games
pub mod Table
pub mod ShutOut
