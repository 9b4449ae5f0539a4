pub mod Bools
pub mod Shapes
pub mod OwnNames
pub mod UsedNames
pub mod FormItems
