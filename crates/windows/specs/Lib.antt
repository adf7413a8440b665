pub mod SameRuns
pub mod Window
pub mod Reading
