pub mod RowLaws
pub mod Growth
pub mod Fill
pub mod ShapeLaws
pub mod ViewLaws
pub mod Trees
pub mod ClauseLaws
pub mod FoundLaws
pub mod StoreSteps
pub mod InfoLaws
pub mod TableLaws
pub mod FittingLaws
pub mod PutSteps
pub mod TakeBackSteps
pub mod ExistentialSteps
pub mod DeclarationLaws
pub mod DefinitionShapes
pub mod DefinitionLaws
pub mod Keys
pub mod NodeSteps
pub mod EnvSteps
pub mod ReadsLaws
pub mod OwnedLaws
pub mod CollectLaws
pub mod AliasLaws
mod EnvExamples
mod AliasExamples
