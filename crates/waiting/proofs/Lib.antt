pub mod Stamps
pub mod Joining
pub mod Storing
pub mod Entering
pub mod Lining
pub mod Standings
