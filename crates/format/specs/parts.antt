pub mod Tests
pub mod Put
pub mod Kinds
