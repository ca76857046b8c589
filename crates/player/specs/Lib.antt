pub mod promise
