pub mod Low
pub mod Verdict
