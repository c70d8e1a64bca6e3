pub mod CanonicalExamples
pub mod CanonicalLaws
pub mod CollectLaws
pub mod CollectorLaws
pub mod ListingLaws
pub mod NumberSteps
pub mod RenameLaws
pub mod SearchSteps
