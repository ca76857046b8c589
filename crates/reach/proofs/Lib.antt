pub mod Queues
pub mod Clears
pub mod Visits
pub mod Closing
