mod OwnRuns
mod Responses
pub mod KeptWindows
mod Answered
