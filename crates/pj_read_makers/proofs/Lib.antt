pub mod Known
pub mod Turning
pub mod Used
