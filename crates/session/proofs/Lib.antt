pub mod Cells
pub mod Reading
pub mod Scan
pub mod Turn
