-- the laws that the functions' proofs cite
pub mod Padding
pub mod Filling
pub mod Running
pub mod Topping
pub mod Turned
