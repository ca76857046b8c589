pub mod Attracting
