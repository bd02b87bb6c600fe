pub mod Leaving
pub mod Given
pub mod Demands
pub mod Rooms
