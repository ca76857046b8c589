pub mod Rows
pub mod Numbers
pub mod Scans
pub mod Says
