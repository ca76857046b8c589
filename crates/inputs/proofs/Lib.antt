pub mod SecondKinds
pub mod Rows
