pub mod FrameRows
pub mod TableRows
