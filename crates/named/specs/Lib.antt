pub mod Plans
pub mod Evidence
pub mod Named
