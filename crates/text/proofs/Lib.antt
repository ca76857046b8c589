-- the laws that the functions' proofs cite
pub mod Appending
pub mod Fields
pub mod Widths
pub mod Decimals
pub mod Leading
