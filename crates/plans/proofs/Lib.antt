pub mod Views
mod Places
mod Records
pub mod Cut
