pub mod LinedUp
