-- theorems: what was written is read back; what was read is written back
pub mod ReadBack
pub mod WriteBack
