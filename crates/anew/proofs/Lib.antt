pub mod Keeping
pub mod Anew
