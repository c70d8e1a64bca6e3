pub mod RunLaws
pub mod FoldLaws
pub mod ParameterLaws
pub mod EraseLaws
