pub mod parts
