pub mod Parameters
pub mod Runner
