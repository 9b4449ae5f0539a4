pub mod Called
pub mod Fronts
pub mod Readings
pub mod Scripts
pub mod TextReadings
