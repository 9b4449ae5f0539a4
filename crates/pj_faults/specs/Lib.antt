pub mod Located
pub mod First
pub mod Introduced
pub mod Sorted
pub mod Faults
pub mod Found
pub mod Counting
pub mod Rows
