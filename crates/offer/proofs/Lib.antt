pub mod Weighing
pub mod Offers
