pub mod DataSteps
mod ViewSteps
pub mod VisitSteps
pub mod TypeTrees
pub mod ItemSteps
pub mod Weights
mod RestLaws
mod BeginSteps
mod FrameSteps
pub mod BareLaws
pub mod Found
pub mod HasTypeFlagsLaws
pub mod HasEscapingVarsLaws
pub mod HasErrorLaws
pub mod MeetsRegionsLaws
mod QueryExamples
