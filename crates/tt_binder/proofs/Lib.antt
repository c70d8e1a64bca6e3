pub mod RowArguments
pub mod FlagLaws
pub mod HookLaws
pub mod WalkLaws
pub mod ShiftedLaws
pub mod TaggedLaws
pub mod SharingLaws
pub mod UntouchedLaws
pub mod PositionLaws
pub mod OpeningLaws
pub mod OpeningSteps
pub mod OpeningOutcome
pub mod ClauseLaws
pub mod InstanceLaws
pub mod StillLaws
pub mod FieldLaws
pub mod ValidateLaws
mod UnprunedLaws
mod UnprunedTrees
mod UnprunedReasons
mod UnprunedExamples
mod SharingExamples
mod InstanceExamples
mod OpeningExamples
mod FieldExamples
mod ValidateExamples
