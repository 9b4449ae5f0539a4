pub mod ValueTrees
pub mod Introducing
pub mod StatementTrees
pub mod ItemTrees
pub mod Telling
