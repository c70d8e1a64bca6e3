pub mod PrintSteps
pub mod PrintNames
pub mod PrintLaws
pub mod PrintVariables
pub mod PrintParts
pub mod PrintPieces
pub mod PrintKinds
mod TextExamples
