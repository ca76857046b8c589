pub mod Answered
pub mod Tests
