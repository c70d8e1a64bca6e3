pub mod RebuildLaws
pub mod ReadingLaws
pub mod ParamLaws
pub mod PutLaws
pub mod OuterLaws
pub mod FitsLaws
pub mod RangeLaws
pub mod FittingLaws
pub mod PlainLaws
pub mod MatchedLaws
pub mod MetLaws
pub mod ScanLaws
pub mod FlagLaws
pub mod CauseLaws
pub mod ChildLaws
pub mod FormLaws
pub mod ValueLaws
pub mod BareLaws
pub mod Examples
pub mod KindExamples
pub mod ScanExamples
mod SignatureExamples
pub mod ForestLaws
pub mod EqualityLaws
pub mod KindEqualityLaws
pub mod SignatureLaws
pub mod IteratorLaws
mod IteratorExamples
