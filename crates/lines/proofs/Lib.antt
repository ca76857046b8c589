-- the laws that the functions' proofs cite, and what a caller needs of the lines' widths
pub mod Moves
pub mod Fields
pub mod Lined
pub mod Widths
pub mod Alike
