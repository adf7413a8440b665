pub mod Put
pub mod Parts
pub mod Lines
pub mod Finish
pub mod Bringing
pub mod Ending
pub mod Listing
pub mod Exporting
