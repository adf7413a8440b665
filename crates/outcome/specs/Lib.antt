pub mod Letters
pub mod Outcomes
