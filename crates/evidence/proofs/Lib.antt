pub mod Law
mod Keeping
mod Opening
mod Written
