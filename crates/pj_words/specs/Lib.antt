pub mod Reserved
pub mod Words
pub mod WordRows
