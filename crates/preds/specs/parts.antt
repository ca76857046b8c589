pub mod Preds
pub mod Build
pub mod Counting
pub mod Placing
