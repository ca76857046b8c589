pub mod Found
pub mod Says
