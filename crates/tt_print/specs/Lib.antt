pub mod Text
pub mod Spelling
pub mod Pieces
