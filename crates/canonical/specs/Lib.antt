pub mod Canonical
pub mod Collector
pub mod Laws
pub mod Numbers
pub mod Search
