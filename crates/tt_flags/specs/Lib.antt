pub mod FlagComputation
pub mod TypeFlags
