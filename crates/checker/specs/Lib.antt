pub mod Formed
pub mod Items
pub mod Scope
pub mod TypeTrees
pub mod Typing
pub mod Written
