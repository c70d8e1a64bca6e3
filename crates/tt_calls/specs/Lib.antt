pub mod Number
pub mod CallForm
pub mod Told
pub mod Means
pub mod Room
pub mod Build
pub mod Parts
