pub mod Tabulate
pub mod Sums
pub mod Stores
pub mod Count
