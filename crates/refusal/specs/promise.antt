pub mod Row
pub mod Number
