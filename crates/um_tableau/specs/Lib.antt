pub mod Rows
pub mod Sheets
pub mod Stands
pub mod Frames
pub mod Starts
pub mod NarrowActs
