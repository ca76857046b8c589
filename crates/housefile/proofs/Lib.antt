-- the laws that the functions' proofs cite
pub mod LentRows
-- theorems: no second result; success exactly if the bytes are the file of well-formed tables
pub mod Determined
pub mod Exactly
