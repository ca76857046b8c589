pub mod Bodies
pub mod Whole
