pub mod Names
pub mod Plain
pub mod Held
pub mod Forms
pub mod RowsForms
pub mod Members
