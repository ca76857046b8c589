pub mod promise
pub mod parts
