pub mod Limits
pub mod Packed
pub mod Tasks
pub mod Fields
pub mod Adding
pub mod Cut
pub mod Record
