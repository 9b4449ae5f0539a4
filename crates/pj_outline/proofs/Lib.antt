pub mod Texts
pub mod ExprLines
pub mod StmtLines
