pub mod GrowthLaws
