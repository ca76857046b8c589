pub mod Closure
pub mod Queue
