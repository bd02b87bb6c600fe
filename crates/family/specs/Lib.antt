pub mod Family
pub mod Masks
