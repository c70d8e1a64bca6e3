pub mod PartLaws
pub mod WantedLaws
mod FormLaws
mod WalkLaws
mod CoreSteps
mod StackLaws
mod FrameLaws
mod GoingLaws
mod ItemSteps
pub mod FoldSteps
mod ChildLaws
mod ChildSteps
mod ValueSteps
mod BareLaws
mod RecordSteps
mod VecSteps
mod CallSteps
mod BoxSteps
mod DataSteps
mod AssumptionSteps
mod ClauseSteps
pub mod LeafLaws
pub mod ClauseLaws
pub mod ShiftLaws
pub mod BoundLaws
mod ShiftSteps
pub mod TypeLaws
pub mod ReplacerLaws
pub mod CounterLaws
pub mod PlaceLaws
pub mod TaskLaws
pub mod RememberLaws
pub mod CountLaws
mod NoteLaws
pub mod MemoryLaws
mod TypesOnceLaws
mod TypesOnceCalls
mod TypesOnceSteps
pub mod KeptLaws
pub mod FunctionalLaws
mod RegionFolderLaws
mod RegionFolderSteps
mod LentLaws
pub mod RegionAnswers
mod Examples
pub mod ShiftExamples
mod PlaceExamples
