pub mod Abi
pub mod ClosureKind
pub mod Greatest
pub mod Text
pub mod Variance
pub mod Equality
pub mod Order
