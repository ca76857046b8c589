-- the laws that the functions' proofs cite
pub mod Answers
pub mod Whole
pub mod Filing
pub mod Determined
