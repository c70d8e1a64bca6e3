pub mod IterLaws
