pub mod Wire
pub mod Calls
pub mod History
pub mod Law
pub mod Keeping
pub mod Opening
