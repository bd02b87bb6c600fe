pub mod Checked
pub mod CutLaws
pub mod Halving
pub mod Parts
pub mod Pass
pub mod Used
