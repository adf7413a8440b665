pub mod Bounded
pub mod Arrivals
pub mod Work
pub mod Slot
pub mod Same
pub mod Equal
