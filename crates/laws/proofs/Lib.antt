-- What the users of the laws show before a law applies.
pub mod ClosedLaws
pub mod RegionLaws
