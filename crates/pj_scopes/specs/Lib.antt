pub mod Resolved
pub mod Made
pub mod Told
pub mod Rows
