pub mod Resolving
