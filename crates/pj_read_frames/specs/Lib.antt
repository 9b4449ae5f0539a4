pub mod Places
pub mod Stacked
pub mod Tops
