pub mod Answers
pub mod Laws
pub mod Scoped
pub mod Texts
